-- Every refusal that reading key material for C may answer carries a number of 32 bits.
-- Assumes nothing.
use Rattle.std.specs.Prelude.{Option, Ok, Err, Result, ltb}
use Rattle.key_material.specs.KeyMaterial.{key_of}
use mathlib.Core.Path.{sym, ◌≡◌, sym, ap, subst, ◌∙◌}
use mathlib.Core.List.{List}
use Prim.Native.Nat.{ℕ, ◌^◌, ◌<◌}
use native.Mathlib.Omega.{arith}
use Rattle.refusal.specs.declared.Refusal.{Refusal}
use Rattle.refusal.specs.declared.Refusal.TheVariants.{NoRoom}
use Rattle.refusal.specs.Refusal.{carried_by}
use Rattle.key_material.specs.declared.KeyingMaterialMessage.{KeyingMaterialMessage}
use Rattle.wire.specs.Bytes.{Octets}
use Rattle.key_checks.specs.KeyChecks.{key_judged}
use Rattle.key_checks.proofs.Faults.{Wrong, short, version, kind, sign, keyless, cipher, auth, stream, encapsulation, key as no-key-length, rest, fault-of}
use Rattle.key_material.specs.KeyMaterial.{key_of, key_read}
use Rattle.key_material.proofs.KeyLaws.{key-acceptance, what-is-read, refused-by, longest-key}
use Rattle.answer.proofs.Halves.{either-small}
use Rattle.key_fields.specs.Key.{key_field_count, key_answered}

-- an accepted message's two lengths have 32 bits as well
pub lengths-small : (s : List ℕ) → Octets s → {key : KeyingMaterialMessage} {used : ℕ} → key_read s ≡ Ok (key, used)
    → (key.salt_len < 2 ^ 32) × (key.wrapped_keys_len < 2 ^ 32)
lengths-small s o {key} {used} e =
    let sound = (key-acceptance s).1 key used e in
    let same : key ≡ key_of s = sym (what-is-read s sound e).0 in
    subst (λ (k : KeyingMaterialMessage). (k.salt_len < 2 ^ 32) × (k.wrapped_keys_len < 2 ^ 32)) (sym same)
    (omega (arith, longest-key s o sound), omega (arith, longest-key s o sound))

judged-small : (s : List ℕ) → Octets s → {r : Refusal} {looked : Option ℕ} → Wrong s r looked → carried_by r < 2 ^ 32
judged-small s o (short h) = omega arith
judged-small s o (version h) = omega arith
judged-small s o (kind h) = omega (arith, o 0)
judged-small s o (sign h) = omega (arith, o 1, o 2)
judged-small s o (keyless h) = omega arith
judged-small s o (cipher h) = omega (arith, o 8)
judged-small s o (auth h) = omega (arith, o 9)
judged-small s o (stream h) = omega arith
judged-small s o (encapsulation h) = omega (arith, o 10)
judged-small s o (no-key-length h) = omega (arith, o 15)
judged-small s o (rest k h) = omega arith

pub key-small : (s : List ℕ) → Octets s → {r : Refusal} → key_read s ≡ Err r → carried_by r < 2 ^ 32
key-small s o {r} e =
    let by = refused-by s r (key_judged s) e in
    judged-small s o (fault-of s r by.0 by.1)

-- so does every refusal that C is answered
pub answered-small : (s : List ℕ) → Octets s → (room : ℕ) {r : Refusal} (x : Result (KeyingMaterialMessage × ℕ) Refusal) → key_read s ≡ x → key_answered x room ≡ Err r → carried_by r < 2 ^ 32
unfolding key_answered
answered-small s o room {r} (Err why) e a = key-small s o (e ∙ (let same : ◌≡◌ {A = Refusal} why r = cc in ap (λ (w : Refusal). Err w) same))
answered-small s o room {r} (Ok (key, used)) e a = either-small (ltb room key_field_count) r (λ q. little q) (λ _ q. absurd (let z : ◌≡◌ {A = ℕ} 0 1 = cc in omega arith)) a
  where
    little : ◌≡◌ {A = Result ℕ Refusal} (Err (NoRoom key_field_count)) (Err r) → carried_by r < 2 ^ 32
    little q = let same : NoRoom key_field_count ≡ r = cc in subst (λ (why : Refusal). carried_by why < 2 ^ 32) same (omega arith)
