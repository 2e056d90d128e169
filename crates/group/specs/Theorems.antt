-- What holds of the definitions, and so of the functions that equal them: acceptance both ways, reading then writing, and writing then reading.
-- Each statement is proved in proofs/ under its own name in small letters. Assumes nothing.
use Rattle.std.specs.Prelude.{ℕ, ◌<◌, ◌≤◌, ◌≡◌, List, ◌++◌, length, take, set, Ok, Err}
use Rattle.refusal.specs.declared.Refusal.TheVariants.{NotEnoughData}
use Rattle.wire.specs.Bytes.{Octets, byte_at}
use Rattle.group.specs.Group.{group_size, group_type, group_type_byte, msg_sync, group_of, group_read, group_bytes, group_written}
use Rattle.group.specs.declared.Group.{Group}
use Rattle.group.specs.declared.GroupType.TheVariants.{Unrecognized}

-- A group is accepted exactly where there are four bytes.
abbrev pub GroupAcceptance : Type 0
GroupAcceptance = (s : List ℕ) →
    (group_size ≤ length s → group_read s ≡ Ok (group_of s, group_size)) × (length s < group_size → group_read s ≡ Err NotEnoughData)

-- A group is written exactly where its flags are 0 or 0x40 and there is room for four bytes.
abbrev pub GroupWriteAcceptance : Type 0
GroupWriteAcceptance = (g : Group) (room : ℕ) →
    (msg_sync g.flags ≡ g.flags → group_size ≤ room → group_written g room ≡ Ok group_size)
    × ((n : ℕ) → group_written g room ≡ Ok n → (msg_sync g.flags ≡ g.flags) × (group_size ≤ room) × (n ≡ group_size))

-- the bytes used, with the dropped flag bits cleared
abbrev pub group_cleared : List ℕ → List ℕ
group_cleared s = set s 1 (msg_sync (byte_at s 1))

-- Reading then writing gives the used bytes with the dropped flag bits cleared, in any room that holds them.
abbrev pub GroupReadThenWrite : Type 0
GroupReadThenWrite = (s : List ℕ) → Octets s → group_size ≤ length s →
    (group_bytes (group_of s) ≡ group_cleared (take group_size s)) × ((room : ℕ) → group_size ≤ room → group_written (group_of s) room ≡ Ok group_size)

-- RULES 5.10, an unrecognized type of 0 to 4: the record that comes back has the type of the byte
-- written, which is the type itself but for that exception.
abbrev pub named : Group → Group
named g = record { ty = group_type (group_type_byte g.ty); flags = g.flags; weight = g.weight }

abbrev pub GroupWriteThenRead : Type 0
GroupWriteThenRead = (g : Group) (room n : ℕ) (more : List ℕ) →
    group_written g room ≡ Ok n → group_read (group_bytes g ++ more) ≡ Ok (named g, n)

-- Any other record comes back as it was.
abbrev pub GroupComesBack : Type 0
GroupComesBack = (g : Group) → ((b : ℕ) → g.ty ≡ Unrecognized b → 5 ≤ b) → named g ≡ g

-- RULES 5.2: the used bytes alone decide
abbrev pub GroupIgnoresRest : Type 0
GroupIgnoresRest = (s more : List ℕ) → group_size ≤ length s → group_read (take group_size s ++ more) ≡ group_read s
