-- What a list's own judgement says of its numbers, and that what is written to words or to bytes is what the rule says. Assumes nothing.
use Rattle.wire.specs.Lent.{within}
use Rattle.std.specs.Prelude.{Result, Ok, Err}
use mathlib.Core.Path.{◌≡◌, refl, sym, ◌∙◌}
use mathlib.Core.Bool.{Bool, true, false, cond}
use mathlib.Core.List.{List, [], ◌∷◌}
use mathlib.Core.Option.{Option, none, some}
use Prim.Native.Nat.{ℕ, ◌%◌, ◌<◌, ◌≤◌}
use native.Mathlib.Omega.{arith}
use borrow.Author.Tests.{ltb-false, lt-ltb, le-ltb, eqb-true, eq-eqb, ne_eqb}
use lib.Dec.{ltb, eqb}
use lib.ListN.{length, length-append}
use Rattle.refusal.specs.declared.Refusal.{Refusal}
use Rattle.refusal.specs.declared.Refusal.TheVariants.{NotEnoughData, TooLong}
use Rattle.loss_list.specs.Run.{limit, numbers_in}
use Rattle.loss_list.specs.Expand.{Item, Parsed, Sound, Faulty, items, expansion, total, past_limit, counted, formed, judgement, expanding, numbers_of, expanded, after_expanding, Expands}
use Rattle.loss_list.specs.Walk.{IsSound}
use Rattle.wire.specs.Bytes.{in_words}
use Rattle.wire.specs.Storage.{Writes}
use Rattle.wire.proofs.Storage.{as-words, as_bytes}
use Rattle.wire.proofs.Writes.{within-done, left-words, left-bytes}
use Rattle.loss_list.specs.InBytes.{judgement_bytes, expanding_bytes, after_expanding_bytes, ExpandsBytes}
use Rattle.loss_list.proofs.Stretch.{length-stretch}

pub length-expansion : (is : List Item) → length (expansion is) ≡ total is
unfolding expansion total numbers_in
length-expansion [] = refl
length-expansion (i ∷ is) =
    omega (arith, length-append (numbers_in i.run) (expansion is), length-stretch i.run.first i.run.steps, length-expansion is)

counted-all : (o : Option ℕ) (t n : ℕ) → Ok n ≡ counted o t → n ≡ t
unfolding counted
counted-all (some p) t n e = absurd (let z : ◌≡◌ {A = ℕ} 0 1 = cc in omega arith)
counted-all none t n e = cc

-- a list that is judged to stand for n numbers has no fault of form, and n numbers
pub formed-numbers : (ps : Parsed) (n : ℕ) → Ok n ≡ formed limit ps → IsSound ps × (n ≡ length (numbers_of ps))
unfolding formed IsSound numbers_of
formed-numbers (Sound is) n e = (tt, counted-all (past_limit limit 0 is) (total is) n e ∙ sym (length-expansion is))
formed-numbers (Faulty r) n e = absurd (let z : ◌≡◌ {A = ℕ} 0 1 = cc in omega arith)

pub count-is : (ws : List ℕ) {n : ℕ} → Ok n ≡ formed limit (items 0 ws) → n ≡ length (expanded ws)
unfolding expanded
count-is ws e = (formed-numbers (items 0 ws) _ e).1

-- the list's own judgement: its length first, and then what its items say
module _ (ws : List ℕ) where
  pub judged-too-long : limit < length ws → Err (TooLong limit) ≡ judgement limit ws
  unfolding judgement
  judged-too-long h = simp (lt-ltb limit (length ws) h)

  pub judged-items : {r : Result ℕ Refusal} → length ws ≤ limit → r ≡ formed limit (items 0 ws) → r ≡ judgement limit ws
  unfolding judgement
  judged-items h e = simp (le-ltb limit (length ws) h) e

  pub judged-numbers : {n : ℕ} → Ok n ≡ judgement limit ws → (length ws ≤ limit) × (Ok n ≡ formed limit (items 0 ws))
  unfolding judgement
  judged-numbers {n} e = go (ltb limit (length ws)) refl e
    where
      go : (b : Bool) → ltb limit (length ws) ≡ b → Ok n ≡ cond b (Err (TooLong limit)) (formed limit (items 0 ws)) → (length ws ≤ limit) × (Ok n ≡ formed limit (items 0 ws))
      go true l q = absurd (let z : ◌≡◌ {A = ℕ} 0 1 = cc in omega arith)
      go false l q = (ltb-false limit (length ws) l, q)

-- bytes are judged as their words are, once they are whole words
module _ (bs : List ℕ) where
  pub judged-odd : (length bs % 4 ≡ 0 → ⊥) → Err NotEnoughData ≡ judgement_bytes bs
  unfolding judgement_bytes
  judged-odd h = simp (ne_eqb (length bs % 4) 0 h)

  pub judged-whole : {r : Result ℕ Refusal} → length bs % 4 ≡ 0 → r ≡ judgement limit (in_words bs) → r ≡ judgement_bytes bs
  unfolding judgement_bytes
  judged-whole h e = simp (eq-eqb (length bs % 4) 0 h) e

  pub judged-words : {n : ℕ} → Ok n ≡ judgement_bytes bs → (length bs % 4 ≡ 0) × (Ok n ≡ judgement limit (in_words bs))
  unfolding judgement_bytes
  judged-words {n} e = go (eqb (length bs % 4) 0) refl e
    where
      go : (b : Bool) → eqb (length bs % 4) 0 ≡ b → Ok n ≡ cond b (judgement limit (in_words bs)) (Err NotEnoughData) → (length bs % 4 ≡ 0) × (Ok n ≡ judgement limit (in_words bs))
      go true m q = (eqb-true (length bs % 4) 0 m, q)
      go false m q = absurd (let z : ◌≡◌ {A = ℕ} 0 1 = cc in omega arith)

pub judged-expanded : (ws : List ℕ) {n : ℕ} → Ok n ≡ judgement limit ws → IsSound (items 0 ws) × (n ≡ length (expanded ws))
unfolding expanded
judged-expanded ws e = formed-numbers (items 0 ws) _ (judged-numbers ws e).1

pub answer-done : (judged : Result ℕ Refusal) (room : ℕ) {n : ℕ} → Ok n ≡ judged → n ≤ room → Ok n ≡ within room judged
answer-done judged room e l = within-done judged room e l

-- what is written to words, or to bytes
module _ (ws held : List ℕ) {r : Result ℕ Refusal} {left : List ℕ} where
  pub expands-words : Writes as-words (expanding ws (length held)) (expanded ws) held r left → Expands ws held r left
  unfolding after_expanding
  expands-words w = record { answer = w.answer; leaves = w.leaves ∙ left-words (expanded ws) held (λ a. after_expanding a ws held) (λ a. refl) (λ n. refl) r }

module _ (bs held : List ℕ) {r : Result ℕ Refusal} {left : List ℕ} where
  pub expands_bytes : Writes as_bytes (expanding_bytes bs (length held)) (expanded (in_words bs)) held r left → ExpandsBytes bs held r left
  unfolding after_expanding_bytes
  expands_bytes w = record { answer = w.answer; leaves = w.leaves ∙ left-bytes (expanded (in_words bs)) held (λ a. after_expanding_bytes a bs held) (λ a. refl) (λ n. refl) r }
