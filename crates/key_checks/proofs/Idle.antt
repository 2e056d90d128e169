-- No reason is idle: one byte at the offset can be chosen that the check passes, or with which the refusal carries another number. Assumes nothing.
use Rattle.std.specs.Prelude.{Option, Some}
use Prim.Native.Nat.{ℕ, ◌<◌, ◌≤◌}
use mathlib.Core.Bool.{Bool, true, false}
use mathlib.Core.Path.{◌≡◌, refl, sym}
use mathlib.Core.List.{List}
use native.Mathlib.Omega.{arith}
use borrow.Author.Tests.{eqb-true, eqb-false}
use lib.Dec.{eqb}
use lib.ListN.{length, set, length-set}
use lib.Seq.{get_or-set_same, get_or-set_other}
use Rattle.refusal.specs.declared.Refusal.{Refusal}
use Rattle.refusal.specs.declared.Refusal.TheVariants.{NotEnoughData, BadSrtExtensionMessage, BadKeyPacketType, BadKeySign, NoKey, BadCipherKind, BadAuth, BadStreamEncapsulation, StreamEncapsulationNotSrt, BadCryptoLength}
use Rattle.wire.specs.Bytes.{byte_at, Octets}
use Rattle.key_checks.specs.KeyChecks.{key_head, key_version, packet_type_bits, is_packet_type, key_sign, key_flags, is_key_length, key_length}
use Rattle.key_checks.specs.Reasons.{OtherAt, ReasonNotIdle}
use Rattle.key_checks.proofs.Faults.{Wrong, short, version, kind, sign, keyless, cipher, auth, stream, encapsulation, key, rest, fault-of}
use Rattle.key_checks.proofs.Reasons.{long_of}

-- with another byte v at p
module _ (s : List ℕ) (p v : ℕ) (h : p < length s) where
  changed : byte_at (set s p v) p ≡ v
  changed = get_or-set_same s p v 0 h

  other : v < 256 → OtherAt p s (set s p v)
  other l = record { as_long = length-set s p v; bytes = λ o i. octet o i (eqb i p) refl; elsewhere = λ i n. get_or-set_other s p i v 0 n }
    where
      octet : Octets s → (i : ℕ) (b : Bool) → eqb i p ≡ b → byte_at (set s p v) i < 256
      octet o i true e = rw (eqb-true i p e, changed) l
      octet o i false e = rw (get_or-set_other s p i v 0 (eqb-false i p e)) (o i)

-- what a refusal says of a message, read off its fault
module _ {t : List ℕ} where
  version-at : {looked : Option ℕ} → Wrong t BadSrtExtensionMessage looked → key_version t ≡ 1 → ⊥
  version-at (version h) = h

  kind_at : {looked : Option ℕ} {n : ℕ} → Wrong t (BadKeyPacketType n) looked → is_packet_type (packet_type_bits t) ≡ false
  kind_at (kind h) = h

  sign_at : {looked : Option ℕ} {n : ℕ} → Wrong t (BadKeySign n) looked → n ≡ key_sign t
  sign_at (sign h) = refl

  keyless-at : {looked : Option ℕ} → Wrong t NoKey looked → key_flags t ≡ 0
  keyless-at (keyless h) = h

  cipher-at : {looked : Option ℕ} {n : ℕ} → Wrong t (BadCipherKind n) looked → 3 < byte_at t 8
  cipher-at (cipher h) = h

  auth-at : {looked : Option ℕ} {n : ℕ} → Wrong t (BadAuth n) looked → byte_at t 9 ≡ 0 → ⊥
  auth-at (auth h) = h

  stream_at : {looked : Option ℕ} → Wrong t StreamEncapsulationNotSrt looked → byte_at t 10 ≡ 1
  stream_at (stream h) = h

  encapsulation-at : {looked : Option ℕ} {n : ℕ} → Wrong t (BadStreamEncapsulation n) looked → byte_at t 10 ≡ 2 → ⊥
  encapsulation-at (encapsulation h) = h

  key-at : {looked : Option ℕ} {n : ℕ} → Wrong t (BadCryptoLength n) looked → is_key_length (key_length t) ≡ false
  key-at (key h) = h

  rest_at : {looked : Option ℕ} → Wrong t NotEnoughData looked → key_head ≤ length t → is_key_length (key_length t) ≡ true
  rest_at (short h) l = absurd (omega arith)
  rest_at (rest k h) l = k

differ : ◌≡◌ {A = Bool} true false → ⊥
differ e = let z : ◌≡◌ {A = ℕ} 0 1 = cc in omega arith

-- of two bytes one is another than the sign's second, and the refusal then carries another number
abbrev Idle : List ℕ → Refusal → ℕ → Type 0
Idle s why p = (t : List ℕ) × OtherAt p s t × ((looked : Option ℕ) → Wrong t why looked → ⊥)

other_sign : (s : List ℕ) → key_head ≤ length s → Idle s (BadKeySign (key_sign s)) 2
other_sign s l = go (eqb (byte_at s 2) 0) refl
  where
    by : (v : ℕ) → v < 256 → (byte_at s 2 ≡ v → ⊥) → Idle s (BadKeySign (key_sign s)) 2
    by v small differs = (
      set s 2 v,
      other s 2 v (omega arith) small,
      λ looked f. differs (omega (arith, sign_at f, changed s 2 v (omega arith), get_or-set_other s 2 1 v 0 (omega arith))),
    )

    go : (b : Bool) → eqb (byte_at s 2) 0 ≡ b → Idle s (BadKeySign (key_sign s)) 2
    go true e = by 1 (omega arith) (λ q. omega (arith, eqb-true (byte_at s 2) 0 e, q))
    go false e = by 0 (omega arith) (eqb-false (byte_at s 2) 0 e)

-- the other byte, by what was wrong
idle : (s : List ℕ) → key_head ≤ length s → {why : Refusal} {p : ℕ} → Wrong s why (Some p) → Idle s why p
idle s l (version h) = (set s 0 0x11, other s 0 0x11 (omega arith) (omega arith), λ looked f. version-at f (rw (changed s 0 0x11 (omega arith))))
idle s l (kind h) = (set s 0 0x11, other s 0 0x11 (omega arith) (omega arith), λ looked f. differ (rw (changed s 0 0x11 (omega arith)) at (kind_at f)))
idle s l (sign h) = other_sign s l
idle s l (keyless h) = (set s 3 1, other s 3 1 (omega arith) (omega arith), λ looked f. omega (arith, rw (changed s 3 1 (omega arith)) at (keyless-at f)))
idle s l (cipher h) = (set s 8 0, other s 8 0 (omega arith) (omega arith), λ looked f. omega (arith, cipher-at f, (changed s 8 0 (omega arith))))
idle s l (auth h) = (set s 9 0, other s 9 0 (omega arith) (omega arith), λ looked f. auth-at f (changed s 9 0 (omega arith)))
idle s l (stream h) = (set s 10 2, other s 10 2 (omega arith) (omega arith), λ looked f. omega (arith, stream_at f, (changed s 10 2 (omega arith))))
idle s l (encapsulation h) = (set s 10 2, other s 10 2 (omega arith) (omega arith), λ looked f. encapsulation-at f (changed s 10 2 (omega arith)))
idle s l (key h) = (set s 15 4, other s 15 4 (omega arith) (omega arith), λ looked f. differ (rw (changed s 15 4 (omega arith)) at (key-at f)))
idle s l (rest k h) = (set s 15 0, other s 15 0 (omega arith) (omega arith), λ looked f. differ (sym (rw (changed s 15 0 (omega arith)) at (rest_at f (omega (arith, length-set s 15 0))))))

pub reason-not-idle : ReasonNotIdle
reason-not-idle s why p e =
    let found = idle s (long_of s e) (fault-of s why (Some p) e) in
    (found.0, found.1, λ looked q. found.2 looked (fault-of found.0 why looked q))
