-- Key material for a C program: a message's fields as six words. RULES 9.9 and 9.10. Assumes nothing.
use Rattle.std.specs.Prelude.{◌≡◌, cond, List, [], ◌∷◌, ◌++◌, ℕ, length, drop, ltb, Result, Ok, Err}
use Rattle.refusal.specs.declared.Refusal.{Refusal}
use Rattle.refusal.specs.declared.Refusal.TheVariants.{NoRoom}
use Rattle.key_material.specs.declared.KeyingMaterialMessage.{KeyingMaterialMessage}
use Rattle.key_kinds.specs.Kinds.{packet_type_byte, cipher_byte}
use Rattle.key_material.specs.KeyMaterial.{key_read}
use Rattle.answer.specs.Packed.{packed_size}

abbrev pub key_field_count : ℕ
key_field_count = 6

-- a record as words; of the places, the salt's is after the sixteen bytes and the wrapped keys' after the salt
abbrev pub key_fields_of : KeyingMaterialMessage → List ℕ
key_fields_of key =
    packet_type_byte key.pt
    ∷ key.key_flags
    ∷ key.keki
    ∷ cipher_byte key.cipher
    ∷ key.salt_len
    ∷ key.wrapped_keys_len
    ∷ []

-- the reader's refusal, then 21 for the fields: the bytes used
unfoldable pub key_answered : Result (KeyingMaterialMessage × ℕ) Refusal → ℕ → Result ℕ Refusal
key_answered (Err r) room = Err r
key_answered (Ok (key, used)) room = cond (ltb room key_field_count) (Err (NoRoom key_field_count)) (Ok used)

-- a refusal writes nothing, and behind the fields the buffer stays as it was
unfoldable pub key_fields_left : Result (KeyingMaterialMessage × ℕ) Refusal → List ℕ → List ℕ
key_fields_left (Err r) held = held
key_fields_left (Ok (key, used)) held = cond (ltb (length held) key_field_count) held (key_fields_of key ++ drop key_field_count held)

-- reading a message's bytes into words that hold `held` answers r and leaves `last` in them
pub record ReadsKey (bs held : List ℕ) (r : ℕ) (last : List ℕ) : Type 0 where
  pub answer : r ≡ packed_size (key_answered (key_read bs) (length held))
  pub leaves : last ≡ key_fields_left (key_read bs) held
