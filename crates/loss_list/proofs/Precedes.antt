-- Which steps make a number Less than another: what is shown of lists looks into the comparison here alone. Assumes nothing.
use mathlib.Core.Path.{◌≡◌, sym, ◌∙◌}
use mathlib.Core.Bool.{true}
use mathlib.Core.Logic.{◌↔◌}
use Prim.Native.Nat.{ℕ, ◌^◌, ◌<◌}
use native.Mathlib.Nat.{mod-eq_of_lt}
use native.Mathlib.Omega.{arith}
use borrow.Author.Tests.{lt-ltb, ltb-true}
use lib.Dec.{ltb}
use Rattle.ring.specs.Ring.{after, distance, half}
use Rattle.ring.proofs.Laws.{less-is}
use Rattle.ring.proofs.Theorems.{distance-after}
use Rattle.loss_list.specs.Run.{precedes}

precedes-is : (a b : ℕ) → precedes a b ≡ ltb (half 31) (distance 31 a b)
unfolding precedes
precedes-is a b = less-is 31 (distance 31 a b)

-- a is Less than b exactly when 1 to 2^30 - 1 steps lead from a to b
pub precedes-steps : (a b : ℕ) → (precedes a b ≡ true) ↔ ((0 < distance 31 b a) × (distance 31 b a < half 31))
precedes-steps a b = (there, back)
  where
    there : precedes a b ≡ true → (0 < distance 31 b a) × (distance 31 b a < half 31)
    there e =
        let h = ltb-true (half 31) (distance 31 a b) (sym (precedes-is a b) ∙ e) in
        omega arith

    back : (0 < distance 31 b a) × (distance 31 b a < half 31) → precedes a b ≡ true
    back s = precedes-is a b ∙ lt-ltb (half 31) (distance 31 a b) (omega (arith, s))

-- n steps on, the distance is n
pub steps_back : (a n : ℕ) → n < 2 ^ 31 → distance 31 (after 31 a n) a ≡ n
steps_back a n h = distance-after 31 a n ∙ mod-eq_of_lt h
