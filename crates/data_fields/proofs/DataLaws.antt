-- Reading and writing data packets for C, case by case; every refusal of either carries a number of 32 bits; and the words lose nothing of a record.
-- Assumes nothing.
use Rattle.std.specs.Prelude.{Result, Ok, Err}
use mathlib.Core.Path.{◌≡◌, refl, sym, ap, ◌∙◌}
use mathlib.Core.Bool.{Bool, true, false, cond}
use mathlib.Core.List.{List, ◌++◌}
use Prim.Native.Nat.{ℕ, ◌+◌, ◌^◌, ◌<◌, ◌≤◌}
use native.Mathlib.Omega.{arith}
use borrow.Author.Tests.{le-ltb, ltb-false}
use lib.Dec.{ltb, eqb, leb}
use lib.ListN.{length, get_or, drop}
use lib.Seq.{get_or-drop}
use Rattle.refusal.specs.declared.Refusal.{Refusal}
use Rattle.refusal.specs.declared.Refusal.TheVariants.{NotEnoughData, ControlBit, BadDataEncryption, TooLong, FieldTooWide, NoRoom}
use Rattle.refusal.specs.declared.Field.TheVariants.{Sequence, Message}
use Rattle.refusal.specs.Refusal.{carried_by}
use Rattle.wire.specs.Bytes.{Octets}
use Rattle.answer.proofs.Halves.{known-small, value-small, either-small}
use Rattle.packet_kinds.specs.declared.PacketLocation.{PacketLocation}
use Rattle.packet_kinds.specs.declared.PacketLocation.TheVariants.{First, Middle, Last, Only}
use Rattle.packet_kinds.specs.declared.DataEncryption.{DataEncryption}
use Rattle.packet_kinds.specs.declared.DataEncryption.TheVariants.{None, Even, Odd}
use Rattle.packet_kinds.specs.declared.IpFamily.{IpFamily}
use Rattle.packet_kinds.specs.Kinds.{family}
use Rattle.data_packet.specs.declared.DataPacket.{DataPacket}
use Rattle.data_packet.specs.Layout.{header_size, payload_max, control_bit, encryption_bits}
use Rattle.data_packet.specs.Reading.{parsed, payload_of}
use Rattle.data_packet.specs.Writing.{bit_of, bytes_of, judged, wire_size}
use Rattle.data_packet.proofs.Family.{by, read-family, bytes-alike, judged-alike}
use Rattle.data_packet.proofs.RoundTrip.{written-again, written-fits}
use Rattle.data_fields.specs.Data.{field_count, family_in, begins, ends, odd, even, fields_of, is_up, location_from, encryption_from, keys_clash, record_from, record_given, judged_given, data_answered, data_written}

-- ---- what the refusals carry

pub parsed-small : (s : List ℕ) (f : IpFamily) {r : Refusal} → parsed s f ≡ Err r → carried_by r < 2 ^ 32
unfolding parsed
parsed-small s f {r} e =
    either-small (ltb (length s) header_size) r (known-small NotEnoughData r (omega arith))
    (λ _. either-small (ltb (header_size + payload_max) (length s)) r (known-small (TooLong payload_max) r (omega arith))
    λ _. either-small (eqb (control_bit s) 1) r (known-small ControlBit r (omega arith))
    λ _. either-small (eqb (encryption_bits s) 3) r (known-small (BadDataEncryption 0x18) r (omega arith))
    λ _. value-small _ r)
    e

pub judged-small : (d : DataPacket) (n room : ℕ) {r : Refusal} → judged d n room ≡ Err r → carried_by r < 2 ^ 32
unfolding judged
judged-small d n room {r} e =
    either-small (ltb payload_max n) r (known-small (TooLong payload_max) r (omega arith))
    (λ t. either-small (leb (2 ^ 31) d.seq_number.0) r (known-small (FieldTooWide Sequence) r (omega arith))
    λ _. either-small (leb (2 ^ 26) d.message_number.0) r (known-small (FieldTooWide Message) r (omega arith))
    λ _. either-small (ltb room (header_size + n)) r (known-small (NoRoom (header_size + n)) r (omega (arith, ltb-false payload_max n t)))
    λ _. value-small _ r)
    e

pub size_small : (f : IpFamily) (n : ℕ) {r : Refusal} → wire_size f n ≡ Err r → carried_by r < 2 ^ 32
unfolding wire_size
size_small f n {r} e = either-small (ltb payload_max n) r (known-small (TooLong payload_max) r (omega arith)) (λ _. value-small _ r) e

-- what is answered of a read, where that carries little
answered-small : (x : Result DataPacket Refusal) (bytes room : ℕ) (r : Refusal) → ((k : Refusal) → x ≡ Err k → carried_by k < 2 ^ 32) → data_answered x bytes room ≡ Err r → carried_by r < 2 ^ 32
unfolding data_answered
answered-small (Err k) bytes room r small e = known-small k r (small k refl) e
answered-small (Ok p) bytes room r small e = either-small (ltb room field_count) r (known-small (NoRoom field_count) r (omega arith)) (λ _. value-small _ r) e

pub read-small : (s : List ℕ) (f : IpFamily) (bytes room : ℕ) (r : Refusal) → data_answered (parsed s f) bytes room ≡ Err r → carried_by r < 2 ^ 32
read-small s f bytes room r e = answered-small (parsed s f) bytes room r (λ k t. parsed-small s f t) e

-- .. and of a write
given-small : (fs : List ℕ) (r : Refusal) → record_given fs ≡ Err r → carried_by r < 2 ^ 32
unfolding record_given
given-small fs r e =
    either-small (ltb (length fs) field_count) r (known-small NotEnoughData r (omega arith))
    (λ _. either-small (keys_clash (is_up (get_or fs 4 0)) (is_up (get_or fs 5 0))) r (known-small (BadDataEncryption 0x18) r (omega arith)) λ _. value-small _ r)
    e

judged_given-small : (x : Result DataPacket Refusal) (n room : ℕ) (r : Refusal) → ((k : Refusal) → x ≡ Err k → carried_by k < 2 ^ 32) → judged_given x n room ≡ Err r → carried_by r < 2 ^ 32
judged_given-small (Err k) n room r small e = known-small k r (small k refl) e
judged_given-small (Ok p) n room r small e = judged-small p n room e

pub written-small : (fs : List ℕ) (n room : ℕ) (r : Refusal) → data_written fs n room ≡ Err r → carried_by r < 2 ^ 32
unfolding data_written
written-small fs n room r e = judged_given-small (record_given fs) n room r (given-small fs) e

-- ---- a record that is given is the one that the words make

either-given : {A : Type 0} (short clash : Bool) (first second : Refusal) (x : A) {y : A} → cond short (Err first) (cond clash (Err second) (Ok x)) ≡ Ok y → y ≡ x
either-given true clash first second x e = let z : ◌≡◌ {A = ℕ} 0 1 = cc in absurd (omega arith)
either-given false true first second x e = let z : ◌≡◌ {A = ℕ} 0 1 = cc in absurd (omega arith)
either-given false false first second x e = cc

pub given-record : (fs : List ℕ) {d : DataPacket} → record_given fs ≡ Ok d → d ≡ record_from fs
unfolding record_given
given-record fs e = either-given (ltb (length fs) field_count) (keys_clash (is_up (get_or fs 4 0)) (is_up (get_or fs 5 0))) NotEnoughData (BadDataEncryption 0x18) (record_from fs) e

-- ---- the words lose nothing: the record that they make is the one that they came from, of the family that the program gives

same-location : (l : PacketLocation) → location_from (is_up (begins l)) (is_up (ends l)) ≡ l
same-location Middle = refl
same-location Last = refl
same-location First = refl
same-location Only = refl

same_key : (k : DataEncryption) → encryption_from (is_up (odd k)) (is_up (even k)) ≡ k
same_key None = refl
same_key Even = refl
same_key Odd = refl

same_flag : (b : Bool) → is_up (bit_of b) ≡ b
same_flag true = refl
same_flag false = refl

pub record-returns : (d : DataPacket) (rest : List ℕ) → record_from (fields_of d ++ rest) ≡ by (family (get_or rest 0 0)) d
unfolding record_from
record-returns d rest = λ i. record {
  seq_number = d.seq_number;
  message_loc = same-location d.message_loc i;
  in_order_delivery = same_flag d.in_order_delivery i;
  encryption = same_key d.encryption i;
  retransmitted = same_flag d.retransmitted i;
  message_number = d.message_number;
  timestamp = d.timestamp;
  dest_sockid = d.dest_sockid;
  family = family (get_or rest 0 0);
}

-- .. and that is the one that the reader was given: what a read leaves in the words is all of the record that was read
pub read-returns : (bs held : List ℕ) {d : DataPacket} → parsed bs (family_in held) ≡ Ok d → record_from (fields_of d ++ drop field_count held) ≡ d
read-returns bs held {d} e = record-returns d (drop field_count held) ∙ ap (λ (f : IpFamily). by f d) (ap family (get_or-drop field_count held 0 0) ∙ sym (read-family bs (family_in held) e))

no-clash : (k : DataEncryption) → keys_clash (is_up (odd k)) (is_up (even k)) ≡ false
no-clash None = refl
no-clash Even = refl
no-clash Odd = refl

-- what was read is written as the writer writes the record
pub fields-return : (d : DataPacket) (rest : List ℕ) (n room : ℕ) → data_written (fields_of d ++ rest) n room ≡ judged d n room
unfolding data_written record_given
fields-return d rest n room = simp (le-ltb (length (fields_of d ++ rest)) field_count (omega arith), no-clash d.encryption) (ap (λ (x : DataPacket). judged x n room) (record-returns d rest) ∙ judged-alike (family (get_or rest 0 0)) d n room)

-- and so a packet that is read is written again as its own bytes, wherever they fit
module _ (s : List ℕ) (f : IpFamily) {d : DataPacket} (e : parsed s f ≡ Ok d) (rest : List ℕ) where
  pub packet-returns : Octets s → bytes_of (record_from (fields_of d ++ rest)) (payload_of s) ≡ s
  packet-returns b = ap (λ (x : DataPacket). bytes_of x (payload_of s)) (record-returns d rest) ∙ bytes-alike (family (get_or rest 0 0)) d (payload_of s) ∙ written-again s f b e

  pub packet-fits : (room : ℕ) → length s ≤ room → data_written (fields_of d ++ rest) (length (payload_of s)) room ≡ Ok (length s)
  packet-fits room h = fields-return d rest (length (payload_of s)) room ∙ written-fits s f e room h
