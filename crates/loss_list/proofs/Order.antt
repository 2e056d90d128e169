-- What a list with no fault of order is: every number is in the ring and Less than the next. Assumes nothing.
use mathlib.Core.Path.{◌≡◌, refl}
use mathlib.Core.Bool.{Bool, true, false, cond}
use mathlib.Core.List.{List, [], ◌∷◌}
use mathlib.Core.Option.{Option, none, some}
use Prim.Native.Nat.{ℕ, zero, suc, ◌+◌, ◌^◌, ◌<◌}
use native.Mathlib.Omega.{arith}
use borrow.Author.Tests.{leb-false}
use lib.ListN.{length, get_or}
use Rattle.refusal.specs.declared.Refusal.{Refusal}
use Rattle.loss_list.specs.Run.{flagged, precedes}
use Rattle.loss_list.specs.Compress.{later_fault, order_fault}

-- neither test of a number found a fault
passed : (f : Bool) (r : Refusal) (o : Option Refusal) → cond f (some r) o ≡ none → (f ≡ false) × (o ≡ none)
passed true r o e = absurd (let z : ◌≡◌ {A = ℕ} 0 1 = cc in omega arith)
passed false r o e = (refl, e)

passed-not : (b : Bool) (o : Option Refusal) (r : Refusal) → cond b o (some r) ≡ none → (b ≡ true) × (o ≡ none)
passed-not true o r e = (refl, e)
passed-not false o r e = absurd (let z : ◌≡◌ {A = ℕ} 0 1 = cc in omega arith)

module _ (p before x : ℕ) (xs : List ℕ) (e : later_fault p before (x ∷ xs) ≡ none) where
  pub later-in : x < 2 ^ 31
  unfolding later_fault
  later-in = leb-false (2 ^ 31) x (passed (flagged x) _ _ e).0

  pub later-less : precedes before x ≡ true
  unfolding later_fault
  later-less = (passed-not (precedes before x) _ _ (passed (flagged x) _ _ e).1).0

  pub later-rest : later_fault (p + 1) x xs ≡ none
  unfolding later_fault
  later-rest = (passed-not (precedes before x) _ _ (passed (flagged x) _ _ e).1).1

module _ (x : ℕ) (xs : List ℕ) (e : order_fault (x ∷ xs) ≡ none) where
  pub first-in : x < 2 ^ 31
  unfolding order_fault
  first-in = leb-false (2 ^ 31) x (passed (flagged x) _ _ e).0

  pub first_rest : later_fault 1 x xs ≡ none
  unfolding order_fault
  first_rest = (passed (flagged x) _ _ e).1

later-all : (p before : ℕ) (xs : List ℕ) → later_fault p before xs ≡ none → (i : ℕ) → i < length xs → get_or xs i 0 < 2 ^ 31
later-all p before [] e i h = absurd (omega arith)
later-all p before (x ∷ xs) e zero h = later-in p before x xs e
later-all p before (x ∷ xs) e (suc i) h = later-all (p + 1) x xs (later-rest p before x xs e) i (omega arith)

pub all_in : (xs : List ℕ) → order_fault xs ≡ none → (i : ℕ) → i < length xs → get_or xs i 0 < 2 ^ 31
all_in [] e i h = absurd (omega arith)
all_in (x ∷ xs) e zero h = first-in x xs e
all_in (x ∷ xs) e (suc i) h = later-all 1 x xs (first_rest x xs e) i (omega arith)
