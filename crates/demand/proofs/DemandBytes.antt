-- Demand 3 of the functions on bytes, four to a word: `CompressesBytes` is what compress_bytes promises of any call, and
-- `ExpandsBytes` what decompress_bytes promises. Assumes nothing.
use Rattle.wire.specs.Lent.{within}
use Rattle.refusal.specs.declared.Refusal.{Refusal}
use Rattle.std.specs.Prelude.{Result, Ok, Err}
use mathlib.Core.Path.{◌≡◌, refl, sym, ap, ◌∙◌}
use mathlib.Core.Bool.{Bool, true, false, cond}
use mathlib.Core.List.{List}
use mathlib.Core.Logic.{◌↔◌}
use Prim.Native.Nat.{ℕ, ◌*◌, ◌/◌, ◌%◌, ◌≤◌}
use native.Mathlib.Omega.{arith}
use borrow.Author.Tests.{eq-eqb, eqb-true}
use lib.Dec.{eqb}
use lib.ListN.{length, take, drop}
use lib.Seq.{take_at}
use Rattle.refusal.specs.declared.Refusal.TheVariants.{NotEnoughData}
use Rattle.loss_list.specs.Run.{limit}
use Rattle.loss_list.specs.Compress.{compressed, words, compressing}
use Rattle.loss_list.specs.Expand.{expanding, expanded}
use Rattle.demand.specs.WellFormed.{Increasing, Compressible, Expandable}
use Rattle.wire.specs.Bytes.{in_bytes, in_words}
use Rattle.loss_list.specs.InBytes.{compressing_bytes, after_compressing_bytes, CompressesBytes, judgement_bytes, expanding_bytes, after_expanding_bytes, ExpandsBytes}
use Rattle.loss_list.proofs.Expands.{judged-whole, judged-words}
use Rattle.demand.proofs.Accepts.{fitted, written-compressible}
use Rattle.demand.proofs.Demand.{compressing-accepted, compressing-accepts, expanding-accepts, count-written, numbers-back, accepted-back}
use Rattle.demand.proofs.Return.{compressed-small}
use Rattle.wire.proofs.Words.{Below, length-in_words, length-in_bytes, words_back, bytes_back}

-- on whole words the answer is that for the words, and there is no other acceptance
module _ (bs : List ℕ) (room : ℕ) where
  compressing-whole : length bs % 4 ≡ 0 → compressing_bytes bs room ≡ compressing (in_words bs) (room / 4)
  unfolding compressing_bytes
  compressing-whole m = simp (eq-eqb (length bs % 4) 0 m)

  compressing-words : {n : ℕ} → compressing_bytes bs room ≡ Ok n → (length bs % 4 ≡ 0) × (compressing (in_words bs) (room / 4) ≡ Ok n)
  unfolding compressing_bytes
  compressing-words {n} e = go (eqb (length bs % 4) 0) refl e
    where
      go : (b : Bool) → eqb (length bs % 4) 0 ≡ b → cond b (compressing (in_words bs) (room / 4)) (Err NotEnoughData) ≡ Ok n → (length bs % 4 ≡ 0) × (compressing (in_words bs) (room / 4) ≡ Ok n)
      go true m q = (eqb-true (length bs % 4) 0 m, q)
      go false m q = absurd (let z : ◌≡◌ {A = ℕ} 0 1 = cc in omega arith)

  expanding-whole : length bs % 4 ≡ 0 → expanding_bytes bs room ≡ expanding (in_words bs) (room / 4)
  expanding-whole m = ap (within (room / 4)) (sym (judged-whole bs m refl))

  expanding-words : {n : ℕ} → expanding_bytes bs room ≡ Ok n → (length bs % 4 ≡ 0) × (expanding (in_words bs) (room / 4) ≡ Ok n)
  expanding-words {n} e =
      let judged = judged-words bs (fitted (room / 4) (judgement_bytes bs) n (sym e)).0 in
      (judged.0, sym (expanding-whole judged.0) ∙ e)

  -- At most 65,536 sequence numbers, each a step of 1 to 2^30 - 1 after the one before, are accepted given as many bytes of room as
  -- they take.
  pub compressing-bytes-accepted : length bs % 4 ≡ 0 → length (in_words bs) ≤ limit → Increasing (in_words bs) → length bs ≤ room → compressing_bytes bs room ≡ Ok (words (in_words bs))
  compressing-bytes-accepted m h i r =
      compressing-whole m ∙ compressing-accepted (in_words bs) (room / 4) h i (omega (arith, length-in_words bs))

  pub compressing-bytes-accepts : ((n : ℕ) × (compressing_bytes bs room ≡ Ok n)) ↔ ((length bs % 4 ≡ 0) × Compressible (in_words bs) (room / 4))
  compressing-bytes-accepts = (
    λ a. ((compressing-words a.1).0, (compressing-accepts (in_words bs) (room / 4)).0 (a.0, (compressing-words a.1).1)),
    λ c. (let x = (compressing-accepts (in_words bs) (room / 4)).1 c.1 in (x.0, compressing-whole c.0 ∙ x.1)),
  )

  -- The expander accepts whole words that it accepts as a list, and nothing else.
  pub expanding-bytes-accepts : ((n : ℕ) × (expanding_bytes bs room ≡ Ok n)) ↔ ((length bs % 4 ≡ 0) × Expandable (in_words bs) (room / 4))
  expanding-bytes-accepts = (
    λ a. ((expanding-words a.1).0, (expanding-accepts (in_words bs) (room / 4)).0 (a.0, (expanding-words a.1).1)),
    λ c. (let x = (expanding-accepts (in_words bs) (room / 4)).1 c.1 in (x.0, expanding-whole c.0 ∙ x.1)),
  )

-- What an accepted call leaves in front is the words written, and handed on they give the bytes of the numbers back.
module _ {bs held : List ℕ} {n : ℕ} {left : List ℕ} (c : CompressesBytes bs held (Ok n) left) where
  accepted-call : (length bs % 4 ≡ 0) × (compressing (in_words bs) (length held / 4) ≡ Ok n)
  accepted-call = compressing-words bs (length held) (sym c.answer)

  pub count-in-front : n ≡ length (compressed (in_words bs))
  count-in-front = count-written (in_words bs) (length held / 4) accepted-call.1

  pub bytes-in-front : take (4 * n) left ≡ in_bytes (compressed (in_words bs))
  unfolding after_compressing_bytes
  bytes-in-front =
      ap (take (4 * n)) c.leaves ∙ take_at (in_bytes (compressed (in_words bs))) (drop (4 * n) held) (4 * n) (length-in_bytes (compressed (in_words bs)) ∙ ap (λ (k : ℕ). 4 * k) (sym count-in-front))

  words-in-front : in_words (take (4 * n) left) ≡ compressed (in_words bs)
  words-in-front =
      ap in_words bytes-in-front ∙ words_back (compressed (in_words bs)) (compressed-small (in_words bs) (written-compressible (in_words bs) (length held / 4) (sym accepted-call.1)).increasing)

  pub bytes-handed-on : {held' left' : List ℕ} {r : Result ℕ Refusal} → Below 256 bs → length bs ≤ length held' → ExpandsBytes (take (4 * n) left) held' r left' → (r ≡ Ok (length (in_words bs))) × (take (length bs) left' ≡ bs)
  unfolding after_expanding_bytes
  bytes-handed-on {held'} {left'} {r} b h x =
      let whole : length (take (4 * n) left) % 4 ≡ 0 = rw bytes-in-front (omega (arith, length-in_bytes (compressed (in_words bs)))) in
      let answer : r ≡ Ok (length (in_words bs)) = x.answer ∙ expanding-whole (take (4 * n) left) (length held') whole ∙ ap (λ (l : List ℕ). expanding l (length held' / 4)) words-in-front ∙ accepted-back (in_words bs) (length held / 4) accepted-call.1 (length held' / 4) (omega (arith, length-in_words bs)) in
      let back : expanded (in_words (take (4 * n) left)) ≡ in_words bs = ap expanded words-in-front ∙ numbers-back (in_words bs) (length held / 4) accepted-call.1 in
      let bytes : in_bytes (expanded (in_words (take (4 * n) left))) ≡ bs = ap in_bytes back ∙ bytes_back bs accepted-call.0 b in
      (answer, ap (take (length bs)) (x.leaves ∙ rw (answer, bytes)) ∙ take_at bs (drop (4 * length (in_words bs)) held') (length bs) refl)
