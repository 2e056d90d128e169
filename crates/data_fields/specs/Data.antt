-- Data packets for a C program: a header's fields as ten words, each flag a word of its own that is up where it is not 0, and the family in the word
-- after them: RULES 9.5 to 9.8 and 9.13.
-- Assumes nothing.
use Rattle.refusal.specs.declared.Refusal.{Refusal}
use Rattle.std.specs.Prelude.{◌≡◌, Bool, false, cond, not, List, [], ◌∷◌, ◌++◌, ℕ, ◌-◌, length, get_or, drop, ltb, eqb, Result, Ok, Err}
use Rattle.refusal.specs.declared.Refusal.TheVariants.{NotEnoughData, BadDataEncryption, NoRoom}
use Rattle.wire.specs.Lent.{leaves}
use Rattle.answer.specs.Packed.{packed_size}
use Rattle.packet_kinds.specs.declared.PacketLocation.{PacketLocation}
use Rattle.packet_kinds.specs.declared.PacketLocation.TheVariants.{First, Middle, Last, Only}
use Rattle.packet_kinds.specs.declared.DataEncryption.{DataEncryption}
use Rattle.packet_kinds.specs.declared.DataEncryption.TheVariants.{None, Even, Odd}
use Rattle.packet_kinds.specs.declared.IpFamily.{IpFamily}
use Rattle.packet_kinds.specs.Kinds.{family}
use Rattle.data_packet.specs.declared.DataPacket.{DataPacket}
use Rattle.data_packet.specs.Layout.{header_size}
use Rattle.data_packet.specs.Reading.{parsed}
use Rattle.data_packet.specs.Writing.{bit_of, bytes_of, judged, wire_size}

-- the words that a header's fields take
abbrev pub field_count : ℕ
field_count = 10

-- the program gives the family in the word after them, 6 for IPv6; where it gives none, the family is IPv4
abbrev pub family_in : List ℕ → IpFamily
family_in fs = family (get_or fs field_count 0)

-- 1 where a packet begins its message, 1 where it ends it
abbrev pub begins : PacketLocation → ℕ
begins Middle = 0
begins Last = 0
begins First = 1
begins Only = 1

abbrev pub ends : PacketLocation → ℕ
ends Middle = 0
ends Last = 1
ends First = 0
ends Only = 1

-- 1 for the odd key, 1 for the even one
abbrev pub odd : DataEncryption → ℕ
odd None = 0
odd Even = 0
odd Odd = 1

abbrev pub even : DataEncryption → ℕ
even None = 0
even Even = 1
even Odd = 0

-- what a record has of the header, as words
abbrev pub fields_of : DataPacket → List ℕ
fields_of p =
    p.seq_number.0
    ∷ begins p.message_loc
    ∷ ends p.message_loc
    ∷ bit_of p.in_order_delivery
    ∷ odd p.encryption
    ∷ even p.encryption
    ∷ bit_of p.retransmitted
    ∷ p.message_number.0
    ∷ p.timestamp.0
    ∷ p.dest_sockid.0
    ∷ []

-- the reader's answer, then 21 for the fields: the payload's length
unfoldable pub data_answered : Result DataPacket Refusal → ℕ → ℕ → Result ℕ Refusal
data_answered (Err r) bytes room = Err r
data_answered (Ok p) bytes room = cond (ltb room field_count) (Err (NoRoom field_count)) (Ok (bytes - header_size))

-- .. in one number
unfoldable pub data_read : Result DataPacket Refusal → ℕ → ℕ → ℕ
data_read x bytes room = packed_size (data_answered x bytes room)

-- a refusal writes nothing, and behind the fields the buffer stays as it was
unfoldable pub fields_left : Result DataPacket Refusal → List ℕ → List ℕ
fields_left (Err r) held = held
fields_left (Ok p) held = cond (ltb (length held) field_count) held (fields_of p ++ drop field_count held)

-- reading a packet's bytes into words that hold `held` answers r and leaves `last` in them
pub record ReadsData (bs held : List ℕ) (r : ℕ) (last : List ℕ) : Type 0 where
  pub answer : r ≡ data_read (parsed bs (family_in held)) (length bs) (length held)
  pub leaves : last ≡ fields_left (parsed bs (family_in held)) held

-- a flag's word is up where it is not 0
abbrev pub is_up : ℕ → Bool
is_up n = not (eqb n 0)

abbrev pub location_from : Bool → Bool → PacketLocation
location_from b e = cond b (cond e Only First) (cond e Last Middle)

-- both keys up is no key at all
abbrev pub keys_clash : Bool → Bool → Bool
keys_clash o e = cond o e false

abbrev pub encryption_from : Bool → Bool → DataEncryption
encryption_from o e = cond o Odd (cond e Even None)

-- the key, and 3 for both
abbrev pub encryption_given : Bool → Bool → Result DataEncryption Refusal
encryption_given o e = cond (keys_clash o e) (Err (BadDataEncryption 0x18)) (Ok (encryption_from o e))

-- the record that the words make
unfoldable pub record_from : List ℕ → DataPacket
record_from fs =
    record {
      seq_number = record { 0 = get_or fs 0 0 };
      message_loc = location_from (is_up (get_or fs 1 0)) (is_up (get_or fs 2 0));
      in_order_delivery = is_up (get_or fs 3 0);
      encryption = encryption_from (is_up (get_or fs 4 0)) (is_up (get_or fs 5 0));
      retransmitted = is_up (get_or fs 6 0);
      message_number = record { 0 = get_or fs 7 0 };
      timestamp = record { 0 = get_or fs 8 0 };
      dest_sockid = record { 0 = get_or fs 9 0 };
      family = family_in fs;
    }

-- 1 for too few words and 3 for both keys, and then the record
unfoldable pub record_given : List ℕ → Result DataPacket Refusal
record_given fs =
    cond (ltb (length fs) field_count) (Err NotEnoughData)
    (cond (keys_clash (is_up (get_or fs 4 0)) (is_up (get_or fs 5 0))) (Err (BadDataEncryption 0x18))
    (Ok (record_from fs)))

-- the writer's own answer, where there is a record
abbrev pub judged_given : Result DataPacket Refusal → ℕ → ℕ → Result ℕ Refusal
judged_given (Err r) payload room = Err r
judged_given (Ok p) payload room = judged p payload room

unfoldable pub data_written : List ℕ → ℕ → ℕ → Result ℕ Refusal
data_written fs payload room = judged_given (record_given fs) payload room

-- writing the record that the words make, with a payload, into a buffer that holds `held` answers r and leaves `last` in it
pub record WritesData (fs payload held : List ℕ) (r : ℕ) (last : List ℕ) : Type 0 where
  pub answer : r ≡ packed_size (data_written fs (length payload) (length held))
  pub leaves : last ≡ leaves (data_written fs (length payload) (length held)) (bytes_of (record_from fs) payload) held

-- the wire size, of the number that a program gives for the family
abbrev pub size_on_wire : ℕ → ℕ → ℕ
size_on_wire version n = packed_size (wire_size (family version) n)
