-- What a list's own judgement says of its words, and that what is written to words or to bytes is what the rule says. Assumes nothing.
use Rattle.std.specs.Prelude.{Result, Ok, Err}
use mathlib.Core.Path.{◌≡◌, refl, sym, ◌∙◌}
use mathlib.Core.Bool.{Bool, true, false, cond}
use mathlib.Core.List.{List, [], ◌∷◌}
use mathlib.Core.Option.{Option, none, some}
use Prim.Native.Nat.{ℕ, zero, suc, ◌/◌, ◌%◌, ◌<◌, ◌≤◌}
use native.Mathlib.Omega.{arith}
use borrow.Author.Tests.{ltb-false, lt-ltb, le-ltb, eq-eqb, ne_eqb}
use lib.Dec.{ltb}
use lib.ListN.{length, length-append}
use Rattle.refusal.specs.declared.Refusal.{Refusal}
use Rattle.refusal.specs.declared.Refusal.TheVariants.{NotEnoughData, TooLong}
use Rattle.wire.specs.Bytes.{in_words}
use Rattle.wire.specs.Storage.{left_by, Writes}
use Rattle.wire.proofs.Storage.{as-words, as_bytes}
use Rattle.wire.proofs.Writes.{within-done, left-words, left-bytes}
use Rattle.loss_list.specs.Run.{Run, limit}
use Rattle.loss_list.specs.Compress.{order_fault, runs, coded, cost, coded_runs, cost_of_runs, compressed, words, ordered, judgement, compressing, after_compressing, Compresses}
use Rattle.loss_list.specs.InBytes.{compressing_bytes, after_compressing_bytes, CompressesBytes}

length-coded : (first steps : ℕ) → length (coded first steps) ≡ cost steps
unfolding coded cost
length-coded first zero = refl
length-coded first (suc n) = refl

length-coded_runs : (rs : List Run) → length (coded_runs rs) ≡ cost_of_runs rs
unfolding coded_runs cost_of_runs
length-coded_runs [] = refl
length-coded_runs (r ∷ rs) =
    omega (arith, length-append (coded r.first r.steps) (coded_runs rs), length-coded r.first r.steps, length-coded_runs rs)

-- the count over runs is the number of words
pub length-compressed : (xs : List ℕ) → length (compressed xs) ≡ words xs
unfolding compressed words
length-compressed xs = length-coded_runs (runs xs)

-- a list that is judged to be written as n words has no fault
pub ordered_words : (o : Option Refusal) (t n : ℕ) → Ok n ≡ ordered o t → (o ≡ none) × (n ≡ t)
unfolding ordered
ordered_words (some r) t n e = absurd (let z : ◌≡◌ {A = ℕ} 0 1 = cc in omega arith)
ordered_words none t n e = (refl, cc)

-- the list's own judgement: its length first, and then its numbers in turn
module _ (xs : List ℕ) where
  pub judged-too-long : limit < length xs → Err (TooLong limit) ≡ judgement xs
  unfolding judgement
  judged-too-long h = simp (lt-ltb limit (length xs) h)

  pub ordered-judged : {r : Result ℕ Refusal} → length xs ≤ limit → r ≡ ordered (order_fault xs) (words xs) → r ≡ judgement xs
  unfolding judgement
  ordered-judged h e = simp (le-ltb limit (length xs) h) e

  pub judged-ordered : {n : ℕ} → Ok n ≡ judgement xs → (length xs ≤ limit) × (Ok n ≡ ordered (order_fault xs) (words xs))
  unfolding judgement
  judged-ordered {n} e = go (ltb limit (length xs)) refl e
    where
      go : (b : Bool) → ltb limit (length xs) ≡ b → Ok n ≡ cond b (Err (TooLong limit)) (ordered (order_fault xs) (words xs)) → (length xs ≤ limit) × (Ok n ≡ ordered (order_fault xs) (words xs))
      go true l q = absurd (let z : ◌≡◌ {A = ℕ} 0 1 = cc in omega arith)
      go false l q = (ltb-false limit (length xs) l, q)

  pub judged-compressed : {n : ℕ} → Ok n ≡ judgement xs → (order_fault xs ≡ none) × (n ≡ length (compressed xs))
  judged-compressed e =
      let counted = ordered_words _ _ _ (judged-ordered e).1 in
      (counted.0, counted.1 ∙ sym (length-compressed xs))

pub answer-done : (xs : List ℕ) (room : ℕ) → length xs ≤ limit → {n : ℕ} → Ok n ≡ ordered (order_fault xs) (words xs) → n ≤ room → Ok n ≡ compressing xs room
answer-done xs room h e l = within-done _ room (ordered-judged xs h e) l

-- what is written to words, or to bytes
pub left-compressed : (xs held : List ℕ) (r : Result ℕ Refusal) → left_by as-words r (compressed xs) held ≡ after_compressing r xs held
unfolding after_compressing
left-compressed xs held = left-words (compressed xs) held (λ r. after_compressing r xs held) (λ r. refl) (λ n. refl)

module _ (xs held : List ℕ) {r : Result ℕ Refusal} {left : List ℕ} where
  pub compresses-words : Writes as-words (compressing xs (length held)) (compressed xs) held r left → Compresses xs held r left
  compresses-words w = record { answer = w.answer; leaves = w.leaves ∙ left-compressed xs held r }

module _ (bs held : List ℕ) where
  pub compresses-odd : (length bs % 4 ≡ 0 → ⊥) → CompressesBytes bs held (Err NotEnoughData) held
  unfolding compressing_bytes after_compressing_bytes
  compresses-odd h = record { answer = simp (ne_eqb (length bs % 4) 0 h); leaves = refl }

  pub compresses_bytes : length bs % 4 ≡ 0 → {r : Result ℕ Refusal} {left : List ℕ} → Writes as_bytes (compressing (in_words bs) (length held / 4)) (compressed (in_words bs)) held r left → CompressesBytes bs held r left
  unfolding compressing_bytes after_compressing_bytes
  compresses_bytes even {r} w =
      record {
        answer = simp (eq-eqb (length bs % 4) 0 even) w.answer;
        leaves = w.leaves ∙ left-bytes (compressed (in_words bs)) held (λ a. after_compressing_bytes a bs held) (λ a. refl) (λ n. refl) r;
      }
