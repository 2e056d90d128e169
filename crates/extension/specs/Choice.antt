-- The choice by type: RULES 5.1 to 5.5. Assumes nothing.
use Rattle.std.specs.Prelude.{ℕ, ◌+◌, ◌/◌, cond, List, leb, eqb, Result, Ok, Err}
use Rattle.refusal.specs.declared.Refusal.{Refusal}
use Rattle.refusal.specs.declared.Refusal.TheVariants.{LaterType, UnsupportedSrtExtensionType}
use Rattle.key_checks.specs.KeyChecks.{either}
use Rattle.key_material.specs.KeyMaterial.{key_read}
use Rattle.key_material.specs.declared.KeyingMaterialMessage.{KeyingMaterialMessage}
use Rattle.handshake.specs.Handshake.{handshake_read}
use Rattle.group.specs.Group.{group_read}
use Rattle.handshake.specs.declared.SrtHandshake.{SrtHandshake}
use Rattle.group.specs.declared.Group.{Group as Member}
use Rattle.extension.specs.declared.SrtControlPacket.{SrtControlPacket}
use Rattle.extension.specs.declared.SrtControlPacket.TheVariants.{Reject, HandshakeRequest, HandshakeResponse, KeyRefreshRequest, KeyRefreshResponse, Group, Refused}

-- RULES 5.2 and 5.3: the answer names the part, with the part's own record or reason inside it
abbrev pub handshake_part : ℕ → Result (SrtHandshake × ℕ) Refusal → SrtControlPacket
handshake_part kind (Ok (handshake, used)) = cond (eqb kind 1) (HandshakeRequest handshake used) (HandshakeResponse handshake used)
handshake_part kind (Err refusal) = Refused kind refusal

abbrev pub key_part : ℕ → Result (KeyingMaterialMessage × ℕ) Refusal → SrtControlPacket
key_part kind (Ok (key, used)) = cond (eqb kind 3) (KeyRefreshRequest key used) (KeyRefreshResponse key used)
key_part kind (Err refusal) = Refused kind refusal

abbrev pub group_part : Result (Member × ℕ) Refusal → SrtControlPacket
group_part (Ok (group, used)) = Group group used
group_part (Err refusal) = Refused 8 refusal

-- what a part is as the answer: itself, or its refusal beside its type
abbrev pub named : ℕ → Result SrtControlPacket Refusal → SrtControlPacket
named kind (Ok part) = part
named kind (Err refusal) = Refused kind refusal

-- RULES 5.1: a reject, a handshake, key material or a group; 13 for 5, 6 and 7, and 12 for 9 and up
abbrev pub choice : ℕ → List ℕ → SrtControlPacket
choice kind s =
    cond (eqb kind 0) (Reject 0)
    (cond (either (eqb kind 1) (eqb kind 2)) (handshake_part kind (handshake_read s))
    (cond (either (eqb kind 3) (eqb kind 4)) (key_part kind (key_read s))
    (cond (eqb kind 8) (group_part (group_read s))
    (cond (leb 9 kind) (Refused kind (UnsupportedSrtExtensionType kind)) (Refused kind (LaterType kind))))))

-- the crate's numbers
abbrev pub type_id : SrtControlPacket → ℕ
type_id (Reject _) = 0
type_id (HandshakeRequest _ _) = 1
type_id (HandshakeResponse _ _) = 2
type_id (KeyRefreshRequest _ _) = 3
type_id (KeyRefreshResponse _ _) = 4
type_id (Group _ _) = 8
type_id (Refused kind _) = kind

-- RULES 5.5, the crate's sizes in words: a reject and a refused part have none
abbrev pub key_words : KeyingMaterialMessage → ℕ
key_words key = 4 + key.salt_len / 4 + key.wrapped_keys_len / 4

abbrev pub size_words : SrtControlPacket → ℕ
size_words (Reject _) = 0
size_words (HandshakeRequest _ _) = 3
size_words (HandshakeResponse _ _) = 3
size_words (KeyRefreshRequest key _) = key_words key
size_words (KeyRefreshResponse key _) = key_words key
size_words (Group _ _) = 1
size_words (Refused _ _) = 0
