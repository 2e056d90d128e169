-- What a row of checks answers tells which checks were passed: up to the first whose refusal it is, or all.
-- Assumes nothing.
use Prim.Native.Nat.{ℕ}
use lib.Dec.{eqb}
use mathlib.Core.Bool.{Bool, true, false, not}
use borrow.Author.Tests.{eq-eqb, ne_eqb}
use mathlib.Core.Path.{◌≡◌, refl, ap}
use Rattle.std.specs.Prelude.{Option}
use Rattle.refusal.specs.declared.Refusal.{Refusal}
use Rattle.key_checks.specs.KeyChecks.{unless, unsound}
use Rattle.key_checks.specs.declared.Fault.{Fault}

-- a check is passed where its refusal is not what was answered, and failed where what stands after it is not
pub passed : {A : Type 0} (holds : Bool) (refusal later answer : A) → (refusal ≡ answer → ⊥) → unless holds refusal later ≡ answer → (holds ≡ true) × (later ≡ answer)
passed true refusal later answer other e = (refl, e)
passed false refusal later answer other e = absurd (other e)

pub failed : {A : Type 0} (holds : Bool) (refusal later answer : A) → (later ≡ answer → ⊥) → unless holds refusal later ≡ answer → holds ≡ false
failed true refusal later answer other e = absurd (other e)
failed false refusal later answer other e = refl

-- equal faults are equal in both their parts
pub same-fault : {why why' : Refusal} {looked looked' : Option ℕ} → unsound why looked ≡ unsound why' looked' → (why ≡ why') × (looked ≡ looked')
same-fault {why} {why'} {looked} {looked'} e =
    let same : ◌≡◌ {A = Fault} (record { refusal = why; looked = looked }) (record { refusal = why'; looked = looked' }) = cc in
    (ap (λ (f : Fault). f.refusal) same, ap (λ (f : Fault). f.looked) same)

-- a test that two numbers differ
pub eq-differ : (n k : ℕ) → n ≡ k → not (eqb n k) ≡ false
eq-differ n k h = simp (eq-eqb n k h)

pub ne-differ : (n k : ℕ) → (n ≡ k → ⊥) → not (eqb n k) ≡ true
ne-differ n k h = simp (ne_eqb n k h)
