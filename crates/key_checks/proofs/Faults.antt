-- What is wrong with a message that is refused: the test of the check whose refusal it is was false, and no other check has that refusal at that offset.
-- Assumes nothing.
use Rattle.std.specs.Prelude.{Option, Some, None}
use Prim.Native.Nat.{ℕ, ◌<◌}
use mathlib.Core.Bool.{Bool, true, false, not}
use mathlib.Core.Path.{◌≡◌, refl, subst}
use mathlib.Core.List.{List}
use native.Mathlib.Omega.{arith}
use borrow.Author.Tests.{leb-false, eqb-true, eqb-false, not-false}
use lib.Dec.{leb, eqb}
use lib.ListN.{length}
use Rattle.refusal.specs.declared.Refusal.{Refusal}
use Rattle.refusal.specs.declared.Refusal.TheVariants.{NotEnoughData, BadSrtExtensionMessage, BadKeyPacketType, BadKeySign, NoKey, BadCipherKind, BadAuth, BadStreamEncapsulation, StreamEncapsulationNotSrt, BadCryptoLength}
use Rattle.wire.specs.Bytes.{byte_at}
use Rattle.key_checks.specs.KeyChecks.{Judged, unsound, unless, key_head, key_version, packet_type_bits, is_packet_type, key_sign, key_flags, is_key_length, key_length, key_used, key_judged}
use Rattle.key_checks.proofs.Checks.{same-fault}

pub data Wrong (s : List ℕ) : Refusal → Option ℕ → Type 0 where
  short : length s < key_head → Wrong s NotEnoughData None
  version : (key_version s ≡ 1 → ⊥) → Wrong s BadSrtExtensionMessage (Some 0)
  kind : is_packet_type (packet_type_bits s) ≡ false → Wrong s (BadKeyPacketType (packet_type_bits s)) (Some 0)
  sign : (key_sign s ≡ 0x2029 → ⊥) → Wrong s (BadKeySign (key_sign s)) (Some 2)
  keyless : key_flags s ≡ 0 → Wrong s NoKey (Some 3)
  cipher : 3 < byte_at s 8 → Wrong s (BadCipherKind (byte_at s 8)) (Some 8)
  auth : (byte_at s 9 ≡ 0 → ⊥) → Wrong s (BadAuth (byte_at s 9)) (Some 9)
  stream : byte_at s 10 ≡ 1 → Wrong s StreamEncapsulationNotSrt (Some 10)
  encapsulation : (byte_at s 10 ≡ 2 → ⊥) → Wrong s (BadStreamEncapsulation (byte_at s 10)) (Some 10)
  key : is_key_length (key_length s) ≡ false → Wrong s (BadCryptoLength (key_length s)) (Some 15)
  rest : is_key_length (key_length s) ≡ true → length s < key_used s → Wrong s NotEnoughData (Some 15)

-- down a row of checks: the refusal is that of a check whose test is false, or of a later one
module _ (s : List ℕ) (why : Refusal) (looked : Option ℕ) where
  down : (holds : Bool) (known : Refusal) (reach : Option ℕ) (later : Judged) → (holds ≡ false → Wrong s known reach) → (holds ≡ true → later ≡ unsound why looked → Wrong s why looked)
      → unless holds (unsound known reach) later ≡ unsound why looked → Wrong s why looked
  down true known reach later here there e = there refl e
  down false known reach later here there e =
      let one : known ≡ why = (same-fault e).0 in
      let two : reach ≡ looked = (same-fault e).1 in
      subst (Wrong s why) two (subst (λ (r : Refusal). Wrong s r reach) one (here refl))

  pub fault-of : key_judged s ≡ unsound why looked → Wrong s why looked
  unfolding key_judged
  fault-of e =
      down (leb key_head (length s)) _ _ _ (λ h. short (leb-false key_head (length s) h)) (λ _.
      down (eqb (key_version s) 1) _ _ _ (λ h. version (eqb-false (key_version s) 1 h)) (λ _.
      down (is_packet_type (packet_type_bits s)) _ _ _ kind (λ _.
      down (eqb (key_sign s) 0x2029) _ _ _ (λ h. sign (eqb-false (key_sign s) 0x2029 h)) (λ _.
      down (not (eqb (key_flags s) 0)) _ _ _ (λ h. keyless (eqb-true (key_flags s) 0 (not-false _ h))) (λ _.
      down (leb (byte_at s 8) 3) _ _ _ (λ h. cipher (leb-false (byte_at s 8) 3 h)) (λ _.
      down (eqb (byte_at s 9) 0) _ _ _ (λ h. auth (eqb-false (byte_at s 9) 0 h)) (λ _.
      down (not (eqb (byte_at s 10) 1)) _ _ _ (λ h. stream (eqb-true (byte_at s 10) 1 (not-false _ h))) (λ _.
      down (eqb (byte_at s 10) 2) _ _ _ (λ h. encapsulation (eqb-false (byte_at s 10) 2 h)) (λ _.
      down (is_key_length (key_length s)) _ _ _ key (λ k.
      down (leb (key_used s) (length s)) _ _ _ (λ h. rest k (leb-false (key_used s) (length s) h)) (λ _ q.
      absurd (let z : ◌≡◌ {A = ℕ} 0 1 = cc in omega arith)))))))))))) e
