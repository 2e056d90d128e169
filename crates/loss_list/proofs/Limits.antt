-- The limit: its size is looked at here alone, and how a list's total stands to a limit. Assumes nothing.
use mathlib.Core.Path.{◌≡◌, refl}
use mathlib.Core.Bool.{Bool, true, false}
use mathlib.Core.List.{List, [], ◌∷◌}
use mathlib.Core.Option.{none, some}
use Prim.Native.Nat.{ℕ, ◌+◌, ◌<◌, ◌≤◌}
use native.Mathlib.Omega.{arith}
use borrow.Author.Tests.{ltb-true, ltb-false, lt-ltb, le-ltb}
use lib.Dec.{ltb}
use Rattle.ring.specs.Ring.{half}
use Rattle.loss_list.specs.Run.{limit}
use Rattle.loss_list.specs.Expand.{Item, total, past_limit}

-- a count within the limit fits 32 bits, and one step more does not reach half around the ring
pub limit_is : limit + 1 < half 31
unfolding limit
limit_is = omega arith

module _ (most before : ℕ) (i : Item) (is : List Item) where
  pub past-here : most < before + (i.run.steps + 1) → past_limit most before (i ∷ is) ≡ some i.place
  unfolding past_limit
  past-here h = rw (lt-ltb most (before + (i.run.steps + 1)) h, past_limit)

  pub past-later : before + (i.run.steps + 1) ≤ most → past_limit most before (i ∷ is) ≡ past_limit most (before + (i.run.steps + 1)) is
  unfolding past_limit
  past-later h = rw (le-ltb most (before + (i.run.steps + 1)) h, past_limit)

-- no item takes the total past the limit exactly when the whole total is within it
pub total-within : (most before : ℕ) (is : List Item) → before ≤ most → past_limit most before is ≡ none → before + total is ≤ most
unfolding total
total-within most before [] h e = omega arith
total-within most before (i ∷ is) h e = go (total-within most (before + (i.run.steps + 1)) is) (ltb most (before + (i.run.steps + 1))) refl
  where
    so_far : ℕ
    so_far = before + (i.run.steps + 1)

    go : (so_far ≤ most → past_limit most so_far is ≡ none → so_far + total is ≤ most) → (b : Bool) → ltb most so_far ≡ b → before + total (i ∷ is) ≤ most
    go rest true l =
        let here = past-here most before i is (ltb-true most so_far l) in
        absurd (let z : ◌≡◌ {A = ℕ} 0 1 = cc in omega arith)
    go rest false l =
        let h' = ltb-false most so_far l in
        omega (arith, rest h' (rw (past-later most before i is h') at e))

pub within-limit : (most before : ℕ) (is : List Item) → before + total is ≤ most → past_limit most before is ≡ none
unfolding total
within-limit most before [] h = unfold past_limit in refl
within-limit most before (i ∷ is) h = rw (past-later most before i is (omega arith)) (within-limit most (before + (i.run.steps + 1)) is (omega arith))
