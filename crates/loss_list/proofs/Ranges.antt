-- The run-of-two rule: which runs are ranges is looked at here alone. Assumes nothing.
use mathlib.Core.Path.{◌≡◌, refl, ◌∙◌}
use mathlib.Core.Bool.{Bool, true, false, cond}
use mathlib.Core.List.{[], ◌∷◌}
use Prim.Native.Nat.{ℕ, suc, ◌+◌, ◌^◌, ◌<◌, ◌≤◌}
use native.Mathlib.Omega.{arith}
use borrow.Author.Tests.{lt-ltb, le-ltb}
use lib.Bits.{bit_or, or_shifted_r, or_zero_r}
use lib.Dec.{ltb}
use Rattle.ring.specs.Ring.{after}
use Rattle.loss_list.specs.Compress.{range_flag, coded}

-- last minus first is more than one: a range
pub flag-range : (steps : ℕ) → 1 < steps → range_flag steps ≡ 2 ^ 31
unfolding range_flag
flag-range steps h = simp (lt-ltb 1 steps h)

-- a lone number and two neighbours are no range
pub flag-none : (steps : ℕ) → steps ≤ 1 → range_flag steps ≡ 0
unfolding range_flag
flag-none steps h = simp (le-ltb 1 steps h)

-- a lone number is a plain word
pub coded-lone : (first : ℕ) → coded first 0 ≡ first ∷ []
unfolding coded
coded-lone first = refl

-- two neighbours are two
pub coded-pair : (first : ℕ) → coded first 1 ≡ first ∷ after 31 first 1 ∷ []
unfolding coded
coded-pair first =
    let plain : first + range_flag 1 ≡ first = omega (arith, flag-none 1 (omega arith)) in
    rw plain

-- three and more are a range
pub coded-range : (first n : ℕ) → coded first (suc (suc n)) ≡ (first + 2 ^ 31) ∷ after 31 first (suc (suc n)) ∷ []
unfolding coded
coded-range first n = rw (flag-range (suc (suc n)) (omega arith))

-- set in a number of the ring, it is added to it
pub flag-set : (first steps : ℕ) → first < 2 ^ 31 → bit_or first (range_flag steps) ≡ first + range_flag steps
unfolding range_flag
flag-set first steps h = go (ltb 1 steps)
  where
    go : (b : Bool) → bit_or first (cond b (2 ^ 31) 0) ≡ first + cond b (2 ^ 31) 0
    go true = or_shifted_r 1 31 first h ∙ omega arith
    go false = or_zero_r first ∙ omega arith

pub flag-within : (steps : ℕ) → range_flag steps ≤ 2 ^ 31
unfolding range_flag
flag-within steps = go (ltb 1 steps)
  where
    go : (b : Bool) → cond b (2 ^ 31) 0 ≤ 2 ^ 31
    go true = omega arith
    go false = omega arith
