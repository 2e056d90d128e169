-- Stretches of the ring, number by number. Assumes nothing.
use mathlib.Core.Path.{◌≡◌, refl, ap, ◌∙◌}
use mathlib.Core.List.{List, [], ◌∷◌}
use Prim.Native.Nat.{ℕ, zero, suc, ◌+◌, ◌-◌, ◌^◌, ◌<◌}
use native.Mathlib.Omega.{arith}
use lib.ListN.{length}
use Rattle.ring.specs.Ring.{after}
use Rattle.loss_list.specs.Run.{stretch}

pub length-stretch : (a n : ℕ) → length (stretch a n) ≡ n + 1
unfolding stretch
length-stretch a zero = refl
length-stretch a (suc n) = ap suc (length-stretch (after 31 a 1) n) ∙ omega arith

module _ (a steps k : ℕ) where
  -- the number k steps on, and those after it
  pub stretch-step : k < steps → stretch (after 31 a k) (steps - k) ≡ after 31 a k ∷ stretch (after 31 a (k + 1)) (steps - (k + 1))
  unfolding stretch
  stretch-step h =
      let more : steps - k ≡ suc (steps - (k + 1)) = omega arith in
      let next : after 31 (after 31 a k) 1 ≡ after 31 a (k + 1) = omega arith in
      ap (stretch (after 31 a k)) more ∙ ap (λ (b : ℕ). after 31 a k ∷ stretch b (steps - (k + 1))) next

  pub stretch-last : k ≡ steps → stretch (after 31 a k) (steps - k) ≡ after 31 a k ∷ []
  unfolding stretch
  stretch-last h =
      let none : steps - k ≡ 0 = omega arith in
      ap (stretch (after 31 a k)) none

pub stretch-head : (a n : ℕ) → (tail : List ℕ) × (stretch a n ≡ a ∷ tail)
unfolding stretch
stretch-head a zero = ([], refl)
stretch-head a (suc n) = (stretch (after 31 a 1) n, refl)

pub stretch-first : (a n : ℕ) → a < 2 ^ 31 → stretch (after 31 a 0) (n - 0) ≡ stretch a n
stretch-first a n h =
    let same : after 31 a 0 ≡ a = omega arith in
    let all : n - 0 ≡ n = omega arith in
    rw (same, all)
