-- What holds of the definitions, and so of the functions that equal them: acceptance both ways, reading then writing, and writing then reading.
-- Each statement is proved in proofs/ under its own name in small letters. Assumes nothing.
use Rattle.std.specs.Prelude.{ℕ, ◌+◌, ◌%◌, ◌^◌, ◌<◌, ◌≤◌, ◌≡◌, List, [], ◌∷◌, ◌++◌, length, take, set, Ok, Err}
use Rattle.refusal.specs.declared.Refusal.TheVariants.{NoKey}
use Rattle.wire.specs.Bytes.{Octets, byte_at}
use Rattle.key_checks.specs.KeyChecks.{KeySigned, KeySound, key_head, key_flags, key_used}
use Rattle.key_material.specs.KeyMaterial.{KeyWritable, key_of, key_read, salt_of, wrapped_of, key_size, key_written, key_bytes}
use Rattle.key_material.specs.declared.KeyingMaterialMessage.{KeyingMaterialMessage}

-- A key message is accepted exactly where it is sound.
abbrev pub KeyAcceptance : Type 0
KeyAcceptance = (s : List ℕ) →
    (KeySound s → key_read s ≡ Ok (key_of s, key_used s)) × ((key : KeyingMaterialMessage) (n : ℕ) → key_read s ≡ Ok (key, n) → KeySound s)

-- A key message is written exactly where it is writable.
abbrev pub KeyWriteAcceptance : Type 0
KeyWriteAcceptance = (flags salt wrapped room : ℕ) →
    (KeyWritable flags salt wrapped room → key_written flags salt wrapped room ≡ Ok (key_size salt wrapped))
    × ((n : ℕ) → key_written flags salt wrapped room ≡ Ok n → KeyWritable flags salt wrapped room)

-- the six reserved bits of byte 3, byte 11, and bytes 12 and 13
abbrev pub key_cleared : List ℕ → List ℕ
key_cleared s = set (set (set (set s 3 (byte_at s 3 % 4)) 11 0) 12 0) 13 0

-- A record is written, with the salt and the wrapped keys of a message, as the message's first n bytes with those cleared, in any room that holds them.
abbrev pub WrittenAgain : List ℕ → KeyingMaterialMessage → ℕ → Type 0
WrittenAgain s key n = (key_bytes key (salt_of s) (wrapped_of s) ≡ key_cleared (take n s))
    × ((room : ℕ) → n ≤ room → key_written key.key_flags (length (salt_of s)) (length (wrapped_of s)) room ≡ Ok n)

-- RULES 6.12: reading then writing gives the used bytes with those cleared, for every message that is accepted.
abbrev pub KeyReadThenWrite : Type 0
KeyReadThenWrite = (s : List ℕ) → Octets s → (key : KeyingMaterialMessage) (n : ℕ) → key_read s ≡ Ok (key, n) → WrittenAgain s key n

-- RULES 6.8: what is read back has those of the parts written, and is otherwise the record
abbrev pub re_placed : KeyingMaterialMessage → ℕ → ℕ → KeyingMaterialMessage
re_placed key salt wrapped = record {
  pt = key.pt;
  key_flags = key.key_flags;
  keki = key.keki;
  cipher = key.cipher;
  auth = key.auth;
  salt_at = key_head;
  salt_len = salt;
  wrapped_keys_at = key_head + salt;
  wrapped_keys_len = wrapped;
}

-- Writing then reading gives the record, the salt and the wrapped keys back, whatever follows; a KEKI has 32 bits.
abbrev pub KeyWriteThenRead : Type 0
KeyWriteThenRead = (key : KeyingMaterialMessage) (salt wrapped more : List ℕ) (room n : ℕ) → key.keki < 2 ^ 32 →
    key_written key.key_flags (length salt) (length wrapped) room ≡ Ok n →
    (key_read (key_bytes key salt wrapped ++ more) ≡ Ok (re_placed key (length salt) (length wrapped), n))
    × (salt_of (key_bytes key salt wrapped ++ more) ≡ salt)
    × (wrapped_of (key_bytes key salt wrapped ++ more) ≡ wrapped)

-- RULES 6.6: a message is refused for having no key exactly where it is right up to its sign and neither flag is set.
abbrev pub NoKeyRefused : Type 0
NoKeyRefused = (s : List ℕ) → (KeySigned s → key_flags s ≡ 0 → key_read s ≡ Err NoKey) × (key_read s ≡ Err NoKey → KeySigned s × (key_flags s ≡ 0))

-- RULES 8.3: the longest message is 1,108 bytes
abbrev pub LongestKey : Type 0
LongestKey = (s : List ℕ) → Octets s → KeySound s → key_used s ≤ 1108

-- A message of that length: both keys of 32 bytes after a salt of 255 words.
abbrev pub LongestReached : Type 0
LongestReached = key_used (0x11 ∷ 0x20 ∷ 0x29 ∷ 3 ∷ 0 ∷ 0 ∷ 0 ∷ 0 ∷ 0 ∷ 0 ∷ 2 ∷ 0 ∷ 0 ∷ 0 ∷ 255 ∷ 8 ∷ []) ≡ 1108

-- RULES 6.5: the used bytes alone decide
abbrev pub KeyIgnoresRest : Type 0
KeyIgnoresRest = (s more : List ℕ) → KeySound s → key_read (take (key_used s) s ++ more) ≡ key_read s
