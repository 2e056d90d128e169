-- The order that the definition judges is that of increasing numbers. Assumes nothing.
use mathlib.Core.Path.{◌≡◌, refl}
use mathlib.Core.List.{List, [], ◌∷◌}
use mathlib.Core.Option.{none as faultless}
use Prim.Native.Nat.{ℕ, ◌+◌, ◌^◌, ◌<◌}
use borrow.Author.Tests.{lt-leb}
use Rattle.loss_list.specs.Compress.{later_fault, order_fault}
use Rattle.demand.specs.WellFormed.{Increasing, none, one, more}
use Rattle.loss_list.proofs.Order.{later-in, later-less, later-rest, first-in, first_rest}
use Rattle.loss_list.proofs.Precedes.{precedes-steps}

in-ring : (x : ℕ) (xs : List ℕ) → Increasing (x ∷ xs) → x < 2 ^ 31
in-ring x [] (one l) = l
in-ring x (y ∷ ys) (more l s i) = l

increasing-later : (x : ℕ) (xs : List ℕ) → Increasing (x ∷ xs) → (p : ℕ) → later_fault p x xs ≡ faultless
unfolding later_fault
increasing-later x [] i p = refl
increasing-later x (y ∷ ys) (more l s i) p = simp (lt-leb (2 ^ 31) y (in-ring y ys i), (precedes-steps x y).1 s) (increasing-later y ys i (p + 1))

pub increasing-faultless : (xs : List ℕ) → Increasing xs → order_fault xs ≡ faultless
unfolding order_fault
increasing-faultless [] i = refl
increasing-faultless (x ∷ xs) i = simp (lt-leb (2 ^ 31) x (in-ring x xs i)) (increasing-later x xs i 1)

later-increasing : (p x : ℕ) (xs : List ℕ) → x < 2 ^ 31 → later_fault p x xs ≡ faultless → Increasing (x ∷ xs)
later-increasing p x [] l e = one l
later-increasing p x (y ∷ ys) l e =
    more l ((precedes-steps x y).0 (later-less p x y ys e)) (later-increasing (p + 1) y ys (later-in p x y ys e) (later-rest p x y ys e))

pub faultless-increasing : (xs : List ℕ) → order_fault xs ≡ faultless → Increasing xs
faultless-increasing [] e = none
faultless-increasing (x ∷ xs) e = later-increasing 1 x xs (first-in x xs e) (first_rest x xs e)
