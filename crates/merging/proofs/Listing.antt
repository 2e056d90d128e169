-- The numbers of a window in order, picked by a test of how many steps after the oldest they stand: what a walk goes through from a place on. Assumes nothing.
use mathlib.Core.Bool.{Bool, cond}
use mathlib.Core.List.{List, [], ◌∷◌}
use Prim.Native.Nat.{ℕ, zero, suc, ◌-◌}
use Rattle.ring.specs.Ring.{after, half}

-- of k numbers, of which the first stands `at` steps after the oldest
unfoldable pub listed : ℕ → (ℕ → Bool) → ℕ → ℕ → List ℕ
listed o g at zero = []
listed o g at (suc k) = cond (g at) (after 31 o at ∷ listed o g (suc at) k) (listed o g (suc at) k)

-- of those up to the window's end
abbrev pub listing : ℕ → (ℕ → Bool) → ℕ → List ℕ
listing o g at = listed o g at (half 31 - at)
