-- What depends on the family: the record's family, which is the one that the reader was given, and the wire size. Nothing else does: two reads of the same
-- bytes differ in the family alone, and two records that differ in it alone are written alike.
-- Assumes nothing.
use Rattle.std.specs.Prelude.{Result, Ok, Err}
use Prim.Native.Nat.{ℕ, ◌+◌, ◌<◌, ◌≤◌}
use mathlib.Core.Bool.{Bool, true, false, cond}
use mathlib.Core.List.{List}
use mathlib.Core.Path.{◌≡◌, refl, ap, ◌∙◌}
use lib.Dec.{ltb, eqb}
use lib.ListN.{length, drop}
use borrow.Author.Tests.{lt-ltb, le-ltb}
use Rattle.refusal.specs.declared.Refusal.{Refusal}
use Rattle.refusal.specs.declared.Refusal.TheVariants.{TooLong}
use Rattle.packet_kinds.specs.declared.IpFamily.{IpFamily}
use Rattle.packet_kinds.specs.declared.IpFamily.TheVariants.{V4, V6}
use Rattle.data_packet.specs.declared.DataPacket.{DataPacket}
use Rattle.data_packet.specs.Layout.{header_size, payload_max, wire_header, control_bit, encryption_bits, record_of}
use Rattle.data_packet.specs.Reading.{parsed, where_read, payload_of}
use Rattle.data_packet.specs.Writing.{second_word, bytes_of, judged, wire_size}
use Rattle.data_packet.proofs.Read.{read-record}

-- "given to the reader"
pub read-family : (s : List ℕ) (f : IpFamily) {p : DataPacket} → parsed s f ≡ Ok p → p.family ≡ f
unfolding record_of
read-family s f read = ap (λ (p : DataPacket). p.family) (read-record s f read)

-- a record with its family made another, and all else as it was
abbrev pub by : IpFamily → DataPacket → DataPacket
by g p =
    record {
      seq_number = p.seq_number;
      message_loc = p.message_loc;
      in_order_delivery = p.in_order_delivery;
      encryption = p.encryption;
      retransmitted = p.retransmitted;
      message_number = p.message_number;
      timestamp = p.timestamp;
      dest_sockid = p.dest_sockid;
      family = g;
    }

-- the answer of a read with the record so changed, and a refusal as it was
abbrev pub read_by : IpFamily → Result DataPacket Refusal → Result DataPacket Refusal
read_by g (Ok p) = Ok (by g p)
read_by g (Err r) = Err r

-- one check more, whose refusal is the same
check : (g : IpFamily) (b : Bool) (r : Refusal) (x y : Result DataPacket Refusal) → y ≡ read_by g x → cond b (Err r) y ≡ read_by g (cond b (Err r) x)
check g true r x y e = refl
check g false r x y e = e

-- "two reads of the same bytes differ in it alone"
pub family-alone : (s : List ℕ) (f g : IpFamily) → parsed s g ≡ read_by g (parsed s f)
unfolding parsed record_of
family-alone s f g =
    check g (ltb (length s) header_size) _ _ _
    (check g (ltb (header_size + payload_max) (length s)) _ _ _
    (check g (eqb (control_bit s) 1) _ _ _
    (check g (eqb (encryption_bits s) 3) _ _ _ refl)))

same-part : (g : IpFamily) (x : Result DataPacket Refusal) (s : List ℕ) → where_read (read_by g x) s ≡ where_read x s
same-part g (Ok p) s = refl
same-part g (Err r) s = refl

-- the payload is that of what is read by either
pub payload-alike : (s : List ℕ) (f : IpFamily) → payload_of s ≡ where_read (parsed s f) (drop header_size s)
payload-alike s f = ap (λ (x : Result DataPacket Refusal). where_read x (drop header_size s)) (family-alone s f V4) ∙ same-part V4 (parsed s f) (drop header_size s)

-- "the bytes written don't change", and neither does any refusal of the writer's
module _ (g : IpFamily) (p : DataPacket) where
  pub bytes-alike : (payload : List ℕ) → bytes_of (by g p) payload ≡ bytes_of p payload
  unfolding bytes_of second_word
  bytes-alike payload = refl

  pub judged-alike : (n room : ℕ) → judged (by g p) n room ≡ judged p n room
  unfolding judged
  judged-alike n room = refl

module _ (f : IpFamily) (n : ℕ) where
  pub sized : n ≤ payload_max → wire_size f n ≡ Ok (wire_header f + n)
  unfolding wire_size
  sized within = simp (le-ltb _ _ within)

  -- "the payload's limit stays for both"
  pub unsized : payload_max < n → wire_size f n ≡ Err (TooLong payload_max)
  unfolding wire_size
  unsized over = simp (lt-ltb _ _ over)

-- "44 plus payload for IPv4 and 64 plus payload for IPv6"
pub sizes : (n : ℕ) → n ≤ payload_max → (wire_size V4 n ≡ Ok (44 + n)) × (wire_size V6 n ≡ Ok (64 + n))
sizes n within = (sized V4 n within, sized V6 n within)
