-- An answer taken apart again: where it is a value or a refusal that carries 32 bits at most, nothing of it is lost. Assumes nothing.
use Rattle.std.specs.Prelude.{Result, Ok, Err}
use mathlib.Core.Path.{◌≡◌, refl, ap, subst}
use mathlib.Core.Bool.{Bool, true, false, cond}
use Prim.Native.Nat.{ℕ, ◌+◌, ◌*◌, ◌^◌, ◌<◌}
use native.Mathlib.Omega.{arith}
use native.Mathlib.Nat.{mod-eq_of_lt}
use Rattle.refusal.specs.declared.Refusal.{Refusal}
use Rattle.refusal.specs.Refusal.{number_of, carried_by}
use Rattle.answer.specs.Packed.{packed, packed_low, packed_size, packed_size_low, Halves}

pub packed-whole : (r : Refusal) → carried_by r < 2 ^ 32 → packed_low r ≡ packed r
packed-whole r h = ap (λ (n : ℕ). number_of r * 2 ^ 32 + n) (mod-eq_of_lt h)

pub packed_size-whole : (x : Result ℕ Refusal) → ((r : Refusal) → x ≡ Err r → carried_by r < 2 ^ 32) → packed_size_low x ≡ packed_size x
unfolding packed_size packed_size_low
packed_size-whole (Ok n) small = refl
packed_size-whole (Err r) small = packed-whole r (small r refl)

pub accepted-halves : (n : ℕ) → n < 2 ^ 32 → Halves n 0 n
accepted-halves n h = record { upper = omega arith; lower = omega arith }

pub refused-halves : (r : Refusal) → carried_by r < 2 ^ 32 → Halves (packed r) (number_of r) (carried_by r)
refused-halves r h = record { upper = omega arith; lower = omega arith }

-- the two answers that end such a chain of tests: a refusal that is known, and a value
pub known-small : {A : Type 0} (known r : Refusal) → carried_by known < 2 ^ 32 → ◌≡◌ {A = Result A Refusal} (Err known) (Err r) → carried_by r < 2 ^ 32
known-small known r h e = let same : known ≡ r = cc in subst (λ (x : Refusal). carried_by x < 2 ^ 32) same h

pub value-small : {A : Type 0} (x : A) (r : Refusal) → ◌≡◌ {A = Result A Refusal} (Ok x) (Err r) → carried_by r < 2 ^ 32
value-small x r e = let z : ◌≡◌ {A = ℕ} 0 1 = cc in absurd (omega arith)

-- of two answers, each of which carries little where it is the refusal r, the one that a test chooses does
pub either-small : {A : Type 0} {x y answer : A} (b : Bool) (r : Refusal) → (x ≡ answer → carried_by r < 2 ^ 32) → (b ≡ false → y ≡ answer → carried_by r < 2 ^ 32) → cond b x y ≡ answer
    → carried_by r < 2 ^ 32
either-small true r h k e = h e
either-small false r h k e = k refl e
