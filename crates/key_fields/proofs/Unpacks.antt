-- No answer on key material is ambiguous: C finds 0 in the upper half of an accepted one, and in that of a refusal its number, which is never 0 (`number_in`); in the
-- lower half it finds the bytes used, or what the refusal carries. Assumes nothing.
use mathlib.Core.Path.{◌≡◌, sym}
use mathlib.Core.List.{List}
use Prim.Native.Nat.{ℕ}
use native.Mathlib.Omega.{arith}
use Rattle.refusal.specs.declared.Refusal.{Refusal}
use Rattle.refusal.specs.Refusal.{number_of, carried_by}
use Rattle.wire.specs.Bytes.{Octets}
use Rattle.answer.specs.Packed.{packed, Halves}
use Rattle.answer.proofs.Halves.{accepted-halves, refused-halves}
use Rattle.key_checks.specs.KeyChecks.{key_used}
use Rattle.key_material.specs.declared.KeyingMaterialMessage.{KeyingMaterialMessage}
use Rattle.std.specs.Prelude.{Ok, Err}
use Rattle.key_material.specs.KeyMaterial.{key_read}
use Rattle.key_material.proofs.KeyLaws.{key-acceptance, what-is-read, longest-key}
use Rattle.key_fields.proofs.KeyLaws.{key-small}

module _ (s : List ℕ) (o : Octets s) where
  pub used-unpack : {key : KeyingMaterialMessage} {used : ℕ} → key_read s ≡ Ok (key, used) → Halves used 0 used
  used-unpack {key} {used} e =
      let sound = (key-acceptance s).1 key used e in
      let same : used ≡ key_used s = sym (what-is-read s sound e).1 in
      accepted-halves used (omega (arith, longest-key s o sound))

  pub not-key-unpack : {r : Refusal} → key_read s ≡ Err r → Halves (packed r) (number_of r) (carried_by r)
  not-key-unpack {r} e = refused-halves r (key-small s o e)
