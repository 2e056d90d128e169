-- Lists whose words lie as bytes, four big-endian to a word: RULES 3.15 to 3.17. Assumes nothing.
use Rattle.wire.specs.Lent.{within}
use Rattle.refusal.specs.declared.Refusal.{Refusal}
use Rattle.std.specs.Prelude.{ℕ, ◌*◌, ◌/◌, ◌%◌, ◌≡◌, cond, List, ◌++◌, eqb, length, drop, Result, Ok, Err}
use Rattle.wire.specs.Bytes.{in_bytes, in_words}
use Rattle.refusal.specs.declared.Refusal.TheVariants.{NotEnoughData}
use Rattle.loss_list.specs.Compress.{compressing, compressed}
use Rattle.loss_list.specs.Run.{limit}
use Rattle.loss_list.specs.Expand.{judgement, expanded}

-- RULES 3.15 and 3.16: a length that is no multiple of four is refused first; the room is the buffer's length over four, rounded down
unfoldable pub compressing_bytes : List ℕ → ℕ → Result ℕ Refusal
compressing_bytes bs room = cond (eqb (length bs % 4) 0) (compressing (in_words bs) (room / 4)) (Err NotEnoughData)

unfoldable pub after_compressing_bytes : Result ℕ Refusal → List ℕ → List ℕ → List ℕ
after_compressing_bytes (Ok n) bs held = in_bytes (compressed (in_words bs)) ++ drop (4 * n) held
after_compressing_bytes (Err r) bs held = held

-- compressing the numbers that bs stands for into a buffer that holds `held` answers r and leaves `left` in it
pub record CompressesBytes (bs held : List ℕ) (r : Result ℕ Refusal) (left : List ℕ) : Type 0 where
  pub answer : r ≡ compressing_bytes bs (length held)
  pub leaves : left ≡ after_compressing_bytes r bs held

-- the list's own refusal, whatever the room
unfoldable pub judgement_bytes : List ℕ → Result ℕ Refusal
judgement_bytes bs = cond (eqb (length bs % 4) 0) (judgement limit (in_words bs)) (Err NotEnoughData)

abbrev pub expanding_bytes : List ℕ → ℕ → Result ℕ Refusal
expanding_bytes bs room = within (room / 4) (judgement_bytes bs)

unfoldable pub after_expanding_bytes : Result ℕ Refusal → List ℕ → List ℕ → List ℕ
after_expanding_bytes (Ok n) bs held = in_bytes (expanded (in_words bs)) ++ drop (4 * n) held
after_expanding_bytes (Err r) bs held = held

-- expanding the words that bs stands for into a buffer that holds `held` answers r and leaves `left` in it
pub record ExpandsBytes (bs held : List ℕ) (r : Result ℕ Refusal) (left : List ℕ) : Type 0 where
  pub answer : r ≡ expanding_bytes bs (length held)
  pub leaves : left ≡ after_expanding_bytes r bs held
