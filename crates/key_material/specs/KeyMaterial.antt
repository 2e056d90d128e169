-- Key material: RULES 6. Assumes nothing.
use Rattle.refusal.specs.declared.Refusal.{Refusal}
use Rattle.std.specs.Prelude.{ℕ, ◌+◌, ◌/◌, ◌%◌, ◌≤◌, ◌≡◌, ◌⊎◌, cond, not, List, [], ◌∷◌, ◌++◌, leb, eqb, length, take, drop, Result, Ok, Err}
use Rattle.std.specs.Borrow.{Bor}
use Rattle.refusal.specs.declared.Field.TheVariants.{KeyFlags}
use Rattle.refusal.specs.declared.Refusal.TheVariants.{FieldTooWide, NoKey, BadSaltLength, BadWrapLength, NoRoom}
use Rattle.wire.specs.Bytes.{byte_at, bytes32, word_at}
use Rattle.key_checks.specs.KeyChecks.{unless, packet_type_bits, key_flags, salt_length, key_count, wrap_length, wrapped_length, key_head, key_used, Judged, key_judged}
use Rattle.key_kinds.specs.Kinds.{packet_type, packet_type_byte, cipher_type, cipher_byte}
use Rattle.key_material.specs.declared.Auth.{Auth}
use Rattle.key_material.specs.declared.Auth.TheVariants.{None as NoAuth}
use Rattle.key_material.specs.declared.KeyingMaterialMessage.{KeyingMaterialMessage}

-- the byte at 9
abbrev pub auth_byte : Auth → ℕ
auth_byte NoAuth = 0

-- RULES 6.3, the record: the salt stands after the sixteen bytes, and the wrapped keys after the salt
abbrev pub key_of : List ℕ → KeyingMaterialMessage
key_of s = record {
  pt = packet_type (packet_type_bits s);
  key_flags = key_flags s;
  keki = word_at s 1;
  cipher = cipher_type (byte_at s 8);
  auth = NoAuth;
  salt_at = key_head;
  salt_len = salt_length s;
  wrapped_keys_at = key_head + salt_length s;
  wrapped_keys_len = wrapped_length s;
}

-- the record with the bytes used, or the refusal of the check that failed
abbrev pub key_answer : Judged → List ℕ → Result (KeyingMaterialMessage × ℕ) Refusal
key_answer (Ok _) s = Ok (key_of s, key_used s)
key_answer (Err fault) s = Err fault.refusal

abbrev pub key_read : List ℕ → Result (KeyingMaterialMessage × ℕ) Refusal
key_read s = key_answer (key_judged s) s

-- RULES 6.7: so many bytes of a message, past so many; none where it is refused
abbrev pub part_from : Judged → ℕ → ℕ → List ℕ → List ℕ
part_from (Ok _) past n s = take n (drop past s)
part_from (Err _) past n s = []

abbrev pub salt_of : List ℕ → List ℕ
salt_of s = part_from (key_judged s) key_head (salt_length s) s

abbrev pub wrapped_of : List ℕ → List ℕ
wrapped_of s = part_from (key_judged s) (key_head + salt_length s) (wrapped_length s) s

-- where a part lies in memory, a block and an offset: so many bytes past where the message lies, or where it lies if it is refused
abbrev pub part_place : Judged → ℕ → ℕ × ℕ → ℕ × ℕ
part_place (Ok _) past (block, offset) = (block, past + offset)
part_place (Err _) past at = at

-- RULES 1.4: r holds these bytes, in the memory of s
pub record PartOf (s : Bor (List ℕ)) (part : List ℕ) (past : ℕ) (r : Bor (List ℕ)) : Type 0 where
  pub bytes : r.now ≡ part
  pub place : r.ref_ptr ≡ part_place (key_judged s.now) past s.ref_ptr

-- RULES 6.9, the key length that the wrapped length gives: 8 plus keys times 16, 24 or 32; 0 where it is none of them
unfoldable pub key_length_from : ℕ → ℕ → ℕ
key_length_from keys wrapped =
    cond (eqb wrapped (wrap_length keys 16)) 16
    (cond (eqb wrapped (wrap_length keys 24)) 24
    (cond (eqb wrapped (wrap_length keys 32)) 32 0))

abbrev pub key_size : ℕ → ℕ → ℕ
key_size salt wrapped = key_head + salt + wrapped

abbrev pub salt_limit : ℕ
salt_limit = 1020

-- RULES 6.10: 22, 23, 24, 25, 21, by the record's flags and
-- the lengths of the salt, the wrapped keys and the buffer
abbrev pub key_written : ℕ → ℕ → ℕ → ℕ → Result ℕ Refusal
key_written flags salt wrapped room =
    unless (leb flags 3) (Err (FieldTooWide KeyFlags))
    (unless (not (eqb flags 0)) (Err NoKey)
    (unless (leb salt salt_limit) (Err (BadSaltLength salt))
    (unless (eqb (salt % 4) 0) (Err (BadSaltLength salt))
    (unless (not (eqb (key_length_from (key_count flags) wrapped) 0)) (Err (BadWrapLength wrapped))
    (unless (leb (key_size salt wrapped) room) (Err (NoRoom (key_size salt wrapped)))
    (Ok (key_size salt wrapped)))))))

-- RULES 6.11: the sixteen bytes, by the lengths of the salt and the wrapped keys
abbrev pub key_head_bytes : KeyingMaterialMessage → ℕ → ℕ → List ℕ
key_head_bytes key salt wrapped =
    ((16 + packet_type_byte key.pt) ∷ 0x20 ∷ 0x29 ∷ key.key_flags ∷ []) ++ bytes32 key.keki
    ++ (cipher_byte key.cipher ∷ auth_byte key.auth ∷ 2 ∷ 0 ∷ 0 ∷ 0 ∷ salt / 4 ∷ key_length_from (key_count key.key_flags) wrapped / 4 ∷ [])

abbrev pub key_bytes : KeyingMaterialMessage → List ℕ → List ℕ → List ℕ
key_bytes key salt wrapped = key_head_bytes key (length salt) (length wrapped) ++ (salt ++ wrapped)

-- RULES 6.10, what is asked of what is to be written: it is written exactly where this holds (proofs/KeyWritable.antt).
pub record KeyWritable (flags salt wrapped room : ℕ) : Type 0 where
  pub narrow : flags ≤ 3
  pub keyed : flags ≡ 0 → ⊥
  pub short : salt ≤ salt_limit
  pub words : salt % 4 ≡ 0
  pub key : (wrapped ≡ wrap_length (key_count flags) 16) ⊎ ((wrapped ≡ wrap_length (key_count flags) 24) ⊎ (wrapped ≡ wrap_length (key_count flags) 32))
  pub fits : key_size salt wrapped ≤ room
