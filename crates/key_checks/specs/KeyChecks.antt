-- What a key message must be: RULES 6.1, 6.2, 6.4 and 6.13. Assumes nothing.
use Rattle.std.specs.Prelude.{ℕ, ◌+◌, ◌*◌, ◌/◌, ◌%◌, ◌≤◌, ◌≡◌, ◌⊎◌, Bool, true, cond, not, List, leb, eqb, length, Option, Some, None, Result, Ok, Err, ⊤}
use Rattle.std.specs.Int.Count.{ones}
use Rattle.refusal.specs.declared.Refusal.{Refusal}
use Rattle.refusal.specs.declared.Refusal.TheVariants.{NotEnoughData, BadSrtExtensionMessage, BadKeyPacketType, BadKeySign, NoKey, BadCipherKind, BadAuth, BadStreamEncapsulation, StreamEncapsulationNotSrt, BadCryptoLength}
use Rattle.wire.specs.Bytes.{byte_at, number16}
use Rattle.key_checks.specs.declared.Fault.{Fault}

-- One check of several: the refusal, or what the later checks answer.
abbrev pub unless : {A : Type 0} → Bool → A → A → A
unless holds refusal later = cond holds later refusal

abbrev pub either : Bool → Bool → Bool
either a b = cond a true b

-- the byte at 0: the version above, the packet type below
abbrev pub key_version : List ℕ → ℕ
key_version s = byte_at s 0 / 16

abbrev pub packet_type_bits : List ℕ → ℕ
packet_type_bits s = byte_at s 0 % 16

abbrev pub is_packet_type : ℕ → Bool
is_packet_type bits = either (eqb bits 1) (eqb bits 2)

abbrev pub key_sign : List ℕ → ℕ
key_sign s = number16 (byte_at s 1) (byte_at s 2)

-- the low two bits of the byte at 3
abbrev pub key_flags : List ℕ → ℕ
key_flags s = byte_at s 3 % 4

-- the bytes at 14 and 15 count words
abbrev pub salt_length : List ℕ → ℕ
salt_length s = byte_at s 14 * 4

abbrev pub key_length : List ℕ → ℕ
key_length s = byte_at s 15 * 4

abbrev pub is_key_length : ℕ → Bool
is_key_length n = either (eqb n 16) (either (eqb n 24) (eqb n 32))

-- RULES 6.2: as many keys as flags are set; `ones` counts the binary digits that are set
abbrev pub key_count : ℕ → ℕ
key_count flags = ones flags

abbrev pub wrap_length : ℕ → ℕ → ℕ
wrap_length keys length = keys * length + 8

abbrev pub wrapped_length : List ℕ → ℕ
wrapped_length s = wrap_length (key_count (key_flags s)) (key_length s)

abbrev pub key_head : ℕ
key_head = 16

-- RULES 6.5: the bytes that a message uses
abbrev pub key_used : List ℕ → ℕ
key_used s = key_head + salt_length s + wrapped_length s

-- A message passes the checks, or there is the fault of the first that it fails: its refusal, and the offset of the last byte that it looked at.
abbrev pub Judged : Type 0
Judged = Result ⊤ Fault

abbrev pub sound : Judged
sound = Ok tt

abbrev pub unsound : Refusal → Option ℕ → Judged
unsound refusal looked = Err (record { refusal = refusal; looked = looked })

-- RULES 6.4: 4, 5, 6, 23, and then what the later checks answer; RULES 6.13: each with the offset of the last byte that it looks at
abbrev pub sign_judged : List ℕ → Judged → Judged
sign_judged s later =
    unless (eqb (key_version s) 1) (unsound BadSrtExtensionMessage (Some 0))
    (unless (is_packet_type (packet_type_bits s)) (unsound (BadKeyPacketType (packet_type_bits s)) (Some 0))
    (unless (eqb (key_sign s) 0x2029) (unsound (BadKeySign (key_sign s)) (Some 2))
    (unless (not (eqb (key_flags s) 0)) (unsound NoKey (Some 3))
    later)))

-- 1 under 16 bytes, before these
abbrev pub head_judged : List ℕ → Judged → Judged
head_judged s later = unless (leb key_head (length s)) (unsound NotEnoughData None) (sign_judged s later)

-- 7, 8, 10 or 9
abbrev pub kinds_judged : List ℕ → Judged → Judged
kinds_judged s later =
    unless (leb (byte_at s 8) 3) (unsound (BadCipherKind (byte_at s 8)) (Some 8))
    (unless (eqb (byte_at s 9) 0) (unsound (BadAuth (byte_at s 9)) (Some 9))
    (unless (not (eqb (byte_at s 10) 1)) (unsound StreamEncapsulationNotSrt (Some 10))
    (unless (eqb (byte_at s 10) 2) (unsound (BadStreamEncapsulation (byte_at s 10)) (Some 10))
    later)))

-- 11, and 1 for the rest
abbrev pub lengths_judged : List ℕ → Judged
lengths_judged s =
    unless (is_key_length (key_length s)) (unsound (BadCryptoLength (key_length s)) (Some 15))
    (unless (leb (key_used s) (length s)) (unsound NotEnoughData (Some 15))
    sound)

unfoldable pub key_judged : List ℕ → Judged
key_judged s = head_judged s (kinds_judged s (lengths_judged s))

-- RULES 6.4, what is asked of a key message up to its sign
pub record KeySigned (s : List ℕ) : Type 0 where
  pub head : key_head ≤ length s
  pub version : key_version s ≡ 1
  pub kind : (packet_type_bits s ≡ 1) ⊎ (packet_type_bits s ≡ 2)
  pub sign : key_sign s ≡ 0x2029

-- RULES 6.5, what is asked of a key message, all at once: a message is accepted exactly where this holds (proofs/KeySound.antt).
pub record KeySound (s : List ℕ) : Type 0 where
  pub signed : KeySigned s
  pub keyed : key_flags s ≡ 0 → ⊥
  pub cipher : byte_at s 8 ≤ 3
  pub auth : byte_at s 9 ≡ 0
  pub encapsulation : byte_at s 10 ≡ 2
  pub key : (key_length s ≡ 16) ⊎ ((key_length s ≡ 24) ⊎ (key_length s ≡ 32))
  pub whole : key_used s ≤ length s
