-- The group extension: RULES 5.9 to 5.12. Assumes nothing.
use Rattle.refusal.specs.declared.Refusal.{Refusal}
use Rattle.std.specs.Prelude.{ℕ, ◌*◌, ◌/◌, ◌%◌, cond, List, [], ◌∷◌, length, ltb, eqb, Result, Ok, Err}
use Rattle.refusal.specs.declared.Field.TheVariants.{GroupFlags}
use Rattle.refusal.specs.declared.Refusal.TheVariants.{NotEnoughData, FieldTooWide, NoRoom}
use Rattle.wire.specs.Bytes.{byte_at, number16}
use Rattle.group.specs.declared.GroupType.{GroupType}
use Rattle.group.specs.declared.GroupType.TheVariants.{Undefined, Broadcast, MainBackup, Balancing, Multicast, Unrecognized}
use Rattle.group.specs.declared.Group.{Group}

abbrev pub group_size : ℕ
group_size = 4

-- RULES 5.10; the names are the draft's, section 3.2.1.4
abbrev pub group_type : ℕ → GroupType
group_type b =
    cond (eqb b 0) Undefined
    (cond (eqb b 1) Broadcast
    (cond (eqb b 2) MainBackup
    (cond (eqb b 3) Balancing
    (cond (eqb b 4) Multicast (Unrecognized b)))))

abbrev pub group_type_byte : GroupType → ℕ
group_type_byte Undefined = 0
group_type_byte Broadcast = 1
group_type_byte MainBackup = 2
group_type_byte Balancing = 3
group_type_byte Multicast = 4
group_type_byte (Unrecognized b) = b

-- only 0x40 is kept
abbrev pub msg_sync : ℕ → ℕ
msg_sync flags = flags / 0x40 % 2 * 0x40

-- RULES 5.9: the weight stands with its lowest byte first
abbrev pub group_of : List ℕ → Group
group_of s = record { ty = group_type (byte_at s 0); flags = msg_sync (byte_at s 1); weight = number16 (byte_at s 3) (byte_at s 2) }

-- RULES 5.11: the record, with the bytes used
abbrev pub group_read : List ℕ → Result (Group × ℕ) Refusal
group_read s = cond (ltb (length s) group_size) (Err NotEnoughData) (Ok (group_of s, group_size))

abbrev pub group_bytes : Group → List ℕ
group_bytes g = group_type_byte g.ty ∷ g.flags ∷ g.weight % 256 ∷ g.weight / 256 ∷ []

-- RULES 5.12: 22, 21; the flags are too wide where they hold another bit than 0x40
abbrev pub group_written : Group → ℕ → Result ℕ Refusal
group_written g room =
    cond (eqb (msg_sync g.flags) g.flags)
    (cond (ltb room group_size) (Err (NoRoom group_size)) (Ok group_size))
    (Err (FieldTooWide GroupFlags))
