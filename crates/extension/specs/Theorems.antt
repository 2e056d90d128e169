-- What holds of the choice by type, and so of the functions that equal it.
-- Each statement is proved in proofs/ under its own name in small letters. Assumes nothing.
use Rattle.std.specs.Prelude.{ℕ, ◌*◌, ◌≤◌, ◌≡◌, List}
use Rattle.refusal.specs.declared.Refusal.TheVariants.{LaterType, UnsupportedSrtExtensionType}
use Rattle.extension.specs.Choice.{choice, type_id, size_words}
use Rattle.extension.specs.declared.SrtControlPacket.{SrtControlPacket}
use Rattle.extension.specs.declared.SrtControlPacket.TheVariants.{Reject, HandshakeRequest, HandshakeResponse, KeyRefreshRequest, KeyRefreshResponse, Group, Refused}

-- The answer names the type that chose it, whatever the bytes.
abbrev pub ChoiceNamesType : Type 0
ChoiceNamesType = (kind : ℕ) (s : List ℕ) → type_id (choice kind s) ≡ kind

-- What an answer says it used; a refused part uses nothing.
abbrev pub used_by : SrtControlPacket → ℕ
used_by (Reject used) = used
used_by (HandshakeRequest _ used) = used
used_by (HandshakeResponse _ used) = used
used_by (KeyRefreshRequest _ used) = used
used_by (KeyRefreshResponse _ used) = used
used_by (Group _ used) = used
used_by (Refused _ _) = 0

-- The crate's size in words is the bytes used, four to a word.
abbrev pub ChoiceSize : Type 0
ChoiceSize = (kind : ℕ) (s : List ℕ) → used_by (choice kind s) ≡ 4 * size_words (choice kind s)

-- RULES 5.1: no byte is looked at
abbrev pub ChoiceRefusesFirst : Type 0
ChoiceRefusesFirst = (kind : ℕ) (s : List ℕ) →
    (5 ≤ kind → kind ≤ 7 → choice kind s ≡ Refused kind (LaterType kind)) × (9 ≤ kind → choice kind s ≡ Refused kind (UnsupportedSrtExtensionType kind))
