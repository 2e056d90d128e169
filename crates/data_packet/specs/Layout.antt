-- Where the fields of a data packet stand, and the family, which stands nowhere: RULES 4.1; the draft, section 3.1. Assumes nothing.
use Rattle.std.specs.Prelude.{ℕ, ◌/◌, ◌%◌, ◌^◌, List, Bool, eqb}
use Rattle.wire.specs.Bytes.{word_at}
use Rattle.packet_kinds.specs.declared.IpFamily.{IpFamily}
use Rattle.packet_kinds.specs.declared.IpFamily.TheVariants.{V4, V6}
use Rattle.packet_kinds.specs.Kinds.{location, encryption}
use Rattle.data_packet.specs.declared.DataPacket.{DataPacket}

-- the bytes before the payload
abbrev pub header_size : ℕ
header_size = 16

-- RULES 8.2: the longest payload
abbrev pub payload_max : ℕ
payload_max = 65535

-- RULES 4.7: 20 bytes of IPv4 or 40 of IPv6, 8 of UDP and the header
abbrev pub wire_header : IpFamily → ℕ
wire_header V4 = 44
wire_header V6 = 64

-- the field of a word that is `width` bits wide and has `low` bits below it
abbrev pub field : ℕ → ℕ → ℕ → ℕ
field low width w = w / 2 ^ low % 2 ^ width

-- 0 in a data packet, the draft's F
abbrev pub control_bit : List ℕ → ℕ
control_bit s = field 31 1 (word_at s 0)

abbrev pub sequence : List ℕ → ℕ
sequence s = field 0 31 (word_at s 0)

-- the draft's PP
abbrev pub location_bits : List ℕ → ℕ
location_bits s = field 30 2 (word_at s 1)

-- the draft's O
abbrev pub in_order_bit : List ℕ → ℕ
in_order_bit s = field 29 1 (word_at s 1)

-- the draft's KK
abbrev pub encryption_bits : List ℕ → ℕ
encryption_bits s = field 27 2 (word_at s 1)

-- the draft's R
abbrev pub retransmitted_bit : List ℕ → ℕ
retransmitted_bit s = field 26 1 (word_at s 1)

abbrev pub message : List ℕ → ℕ
message s = field 0 26 (word_at s 1)

-- a flag is up where its bit is 1
abbrev pub up : ℕ → Bool
up n = eqb n 1

-- RULES 4.3: the record of a packet that is accepted, with the family that the reader was given
unfoldable pub record_of : List ℕ → IpFamily → DataPacket
unfolding location encryption
record_of s f =
    record {
      seq_number = record { 0 = sequence s };
      message_loc = location (location_bits s);
      in_order_delivery = up (in_order_bit s);
      encryption = encryption (encryption_bits s);
      retransmitted = up (retransmitted_bit s);
      message_number = record { 0 = message s };
      timestamp = record { 0 = word_at s 2 };
      dest_sockid = record { 0 = word_at s 3 };
      family = f;
    }
