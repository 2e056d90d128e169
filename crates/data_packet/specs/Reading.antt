-- What reading any bytes answers: RULES 4.2 to 4.4. Assumes nothing.
use Rattle.refusal.specs.declared.Refusal.{Refusal}
use Rattle.std.specs.Prelude.{ℕ, ◌+◌, List, [], cond, length, drop, ltb, eqb, ◌≡◌, Result, Ok, Err}
use Rattle.std.specs.Borrow.{Bor}
use Rattle.refusal.specs.declared.Refusal.TheVariants.{NotEnoughData, ControlBit, BadDataEncryption, TooLong}
use Rattle.packet_kinds.specs.declared.IpFamily.{IpFamily}
use Rattle.packet_kinds.specs.declared.IpFamily.TheVariants.{V4}
use Rattle.data_packet.specs.declared.DataPacket.{DataPacket}
use Rattle.data_packet.specs.Layout.{header_size, payload_max, control_bit, encryption_bits, record_of}

-- RULES 4.2: 1 under 16 bytes, 14 for too long a payload, 2, 3, of either family
unfoldable pub parsed : List ℕ → IpFamily → Result DataPacket Refusal
parsed s f =
    cond (ltb (length s) header_size) (Err NotEnoughData)
    (cond (ltb (header_size + payload_max) (length s)) (Err (TooLong payload_max))
    (cond (eqb (control_bit s) 1) (Err ControlBit)
    (cond (eqb (encryption_bits s) 3) (Err (BadDataEncryption 0x18))
    (Ok (record_of s f)))))

-- what is handed back where bytes are accepted, and an empty part where they are refused
abbrev pub where_read : Result DataPacket Refusal → List ℕ → List ℕ
where_read (Ok p) s = s
where_read (Err r) s = []

-- RULES 4.4: the bytes from 16 on, which may be none, and are the same of either family
abbrev pub payload_of : List ℕ → List ℕ
payload_of s = where_read (parsed s V4) (drop header_size s)

-- where bytes lie in memory, a block and an offset: 16 past where the packet lies, or where it lies if it is refused
abbrev pub payload_place : Result DataPacket Refusal → ℕ × ℕ → ℕ × ℕ
payload_place (Ok p) (block, offset) = (block, header_size + offset)
payload_place (Err r) at = at

-- RULES 1.4, no copy: r is the payload of s, in the memory of s
pub record Payload (s r : Bor (List ℕ)) : Type 0 where
  pub bytes : r.now ≡ payload_of s.now
  pub place : r.ref_ptr ≡ payload_place (parsed s.now V4) s.ref_ptr
