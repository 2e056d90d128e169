-- What writing a record and a payload answers, and the bytes that it writes; the wire size: RULES 4.5 to 4.7. Assumes nothing.
use Rattle.refusal.specs.declared.Refusal.{Refusal}
use Rattle.std.specs.Prelude.{ℕ, ◌+◌, ◌*◌, ◌^◌, List, ◌++◌, Bool, true, false, cond, leb, ltb, Result, Ok, Err}
use Rattle.refusal.specs.declared.Field.TheVariants.{Sequence, Message}
use Rattle.refusal.specs.declared.Refusal.TheVariants.{FieldTooWide, NoRoom, TooLong}
use Rattle.wire.specs.Bytes.{bytes32}
use Rattle.packet_kinds.specs.declared.IpFamily.{IpFamily}
use Rattle.packet_kinds.specs.Kinds.{location_number, encryption_number}
use Rattle.data_packet.specs.declared.DataPacket.{DataPacket}
use Rattle.data_packet.specs.Layout.{header_size, payload_max, wire_header}

-- a flag's bit is 1 where it is up
abbrev pub bit_of : Bool → ℕ
bit_of true = 1
bit_of false = 0

-- two bits for the location, one in order, two for the key, one sent again, 26 for the message number
unfoldable pub second_word : DataPacket → ℕ
second_word p =
    location_number p.message_loc * 2 ^ 30
    + bit_of p.in_order_delivery * 2 ^ 29
    + encryption_number p.encryption * 2 ^ 27
    + bit_of p.retransmitted * 2 ^ 26
    + p.message_number.0

-- RULES 4.6: the header, then the payload
unfoldable pub bytes_of : DataPacket → List ℕ → List ℕ
unfolding second_word
bytes_of p payload =
    bytes32 p.seq_number.0 ++ bytes32 (second_word p) ++ bytes32 p.timestamp.0 ++ bytes32 p.dest_sockid.0 ++ payload

-- RULES 4.5: 14, 22 (1, then 2), 21, of a record, its payload's length and the buffer's
unfoldable pub judged : DataPacket → ℕ → ℕ → Result ℕ Refusal
judged p n room =
    cond (ltb payload_max n) (Err (TooLong payload_max))
    (cond (leb (2 ^ 31) p.seq_number.0) (Err (FieldTooWide Sequence))
    (cond (leb (2 ^ 26) p.message_number.0) (Err (FieldTooWide Message))
    (cond (ltb room (header_size + n)) (Err (NoRoom (header_size + n)))
    (Ok (header_size + n)))))

-- RULES 4.7: 14 for too long a payload, of either family
unfoldable pub wire_size : IpFamily → ℕ → Result ℕ Refusal
wire_size f n = cond (ltb payload_max n) (Err (TooLong payload_max)) (Ok (wire_header f + n))
