-- Numbers that are written as as many words: no run has more than two of them, so they are written as they are. Assumes nothing.
use Rattle.std.specs.Prelude.{Ok}
use mathlib.Core.Path.{◌≡◌, refl, sym, ap, ◌∙◌}
use mathlib.Core.Bool.{Bool, true, false, cond}
use mathlib.Core.List.{List, [], ◌∷◌, ◌++◌}
use Prim.Native.Nat.{ℕ, zero, suc, ◌/◌, ◌%◌, ◌≤◌}
use native.Mathlib.Omega.{arith}
use borrow.Author.Tests.{eqb-true, le-ltb}
use lib.Dec.{eqb}
use lib.ListN.{length, drop}
use Rattle.ring.specs.Ring.{after}
use Rattle.wire.specs.Bytes.{Octets, in_words}
use Rattle.wire.specs.Lent.{placed}
use Rattle.wire.specs.Storage.{flat}
use Rattle.wire.proofs.Storage.{as_bytes, flat-bytes}
use Rattle.wire.proofs.Words.{length-in_words, octets-below, bytes_back}
use Rattle.loss_list.specs.Run.{Run}
use Rattle.loss_list.specs.Compress.{order_fault, joined, runs, cost, coded_runs, cost_of_runs, compressed, words, ordered}
use Rattle.loss_list.proofs.Compresses.{ordered_words}
use Rattle.loss_list.proofs.Ranges.{coded-lone, coded-pair}
use Rattle.loss_list.proofs.Runs.{words-number, words-within}

lone-cost : (n : ℕ) → cost n ≤ 1 → n ≡ 0
unfolding cost
lone-cost zero h = refl
lone-cost (suc n) h = absurd (omega arith)

-- a number that adds a word is written before what follows it, as itself
joined-plain : (x : ℕ) (rs : List Run) → cost_of_runs (joined x rs) ≡ suc (cost_of_runs rs) → coded_runs (joined x rs) ≡ x ∷ coded_runs rs
unfolding joined coded_runs cost_of_runs cost
joined-plain x [] e = rw (coded-lone x)
joined-plain x (r ∷ rs) e = go (eqb r.first (after 31 x 1)) refl e
  where
    either : Bool → List Run
    either b = cond b (record { first = x; steps = suc r.steps } ∷ rs) (record { first = x; steps = 0 } ∷ r ∷ rs)

    go : (b : Bool) → eqb r.first (after 31 x 1) ≡ b → cost_of_runs (either b) ≡ suc (cost_of_runs (r ∷ rs)) → coded_runs (either b) ≡ x ∷ coded_runs (r ∷ rs)
    go true j q =
        let alone : r.steps ≡ 0 = lone-cost r.steps (omega arith) in
        let next : r.first ≡ after 31 x 1 = eqb-true r.first (after 31 x 1) j in
        rw (alone, next, coded-pair x, coded-lone)
    go false j q = rw (coded-lone x)

pub copied : (xs : List ℕ) → words xs ≡ length xs → compressed xs ≡ xs
unfolding words compressed runs coded_runs
copied [] e = refl
copied (x ∷ xs) e =
    let rest : words xs ≡ length xs = omega (arith, words-number x xs, words-within xs) in
    joined-plain x (runs xs) (omega arith) ∙ ap (λ (l : List ℕ). x ∷ l) (copied xs rest)

-- once their bytes are copied, all is written
pub copied-whole : (bs held left : List ℕ) {n : ℕ} → Octets bs → length bs % 4 ≡ 0 → Ok n ≡ ordered (order_fault (in_words bs)) (words (in_words bs)) → n ≡ length bs / 4 → n ≤ length held / 4 → left ≡ placed bs held
    → left ≡ flat as_bytes (compressed (in_words bs)) ++ drop (length (flat as_bytes (compressed (in_words bs)))) held
copied-whole bs held left octets even e q room l =
    let count : length bs / 4 ≡ words (in_words bs) = sym q ∙ (ordered_words _ _ _ e).1 in
    let same : compressed (in_words bs) ≡ in_words bs = copied (in_words bs) (sym count ∙ sym (length-in_words bs)) in
    let back : flat as_bytes (in_words bs) ≡ bs = flat-bytes (in_words bs) ∙ bytes_back bs even (octets-below bs octets) in
    l ∙ simp (le-ltb (length held) (length bs) (omega arith)) (rw (same, back))
