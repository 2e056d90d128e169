-- The runs of a list are the longest: none goes on where the next begins. Assumes nothing.
use mathlib.Core.Path.{◌≡◌, refl}
use mathlib.Core.Bool.{Bool, true, false, cond}
use mathlib.Core.List.{List, [], ◌∷◌}
use Prim.Native.Nat.{ℕ, suc}
use native.Mathlib.Omega.{arith}
use borrow.Author.Tests.{eqb-true, eqb-false}
use lib.Dec.{eqb}
use Rattle.ring.specs.Ring.{after}
use Rattle.loss_list.specs.Run.{Run}
use Rattle.loss_list.specs.Compress.{joined, runs}
use Rattle.demand.specs.Whole.{Apart}

apart-joined : (x : ℕ) (rs : List Run) → Apart rs → Apart (joined x rs)
unfolding joined
apart-joined x [] a = tt
apart-joined x (r ∷ []) a = go (eqb r.first (after 31 x 1)) refl
  where
    go : (b : Bool) → eqb r.first (after 31 x 1) ≡ b → Apart (cond b (record { first = x; steps = suc r.steps } ∷ []) (record { first = x; steps = 0 } ∷ r ∷ []))
    go true e = tt
    go false e = (λ q. eqb-false r.first (after 31 x 1) e q, tt)
apart-joined x (r ∷ s ∷ rs) a = go (eqb r.first (after 31 x 1)) refl
  where
    go : (b : Bool) → eqb r.first (after 31 x 1) ≡ b → Apart (cond b (record { first = x; steps = suc r.steps } ∷ s ∷ rs) (record { first = x; steps = 0 } ∷ r ∷ s ∷ rs))
    go true e =
        let same = eqb-true r.first (after 31 x 1) e in
        (λ q. a.0 (omega arith), a.1)
    go false e = (λ q. eqb-false r.first (after 31 x 1) e q, a)

pub apart-runs : (xs : List ℕ) → Apart (runs xs)
unfolding runs
apart-runs [] = tt
apart-runs (x ∷ xs) = apart-joined x (runs xs) (apart-runs xs)
