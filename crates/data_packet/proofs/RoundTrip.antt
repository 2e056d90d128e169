-- Reading and writing undo each other: `written-again` and `rewritten` one way, `read_back` the other. The words of a packet that was read are its
-- bytes again, four by four; the words of one that was written are the record's again, field by field.
-- Assumes nothing.
use Rattle.refusal.specs.declared.Refusal.{Refusal}
use Rattle.std.specs.Prelude.{Result, Ok}
use Prim.Native.Nat.{ℕ, ◌+◌, ◌*◌, ◌^◌, ◌<◌, ◌≤◌}
use mathlib.Core.List.{List, [], ◌∷◌, ◌++◌}
use mathlib.Core.Path.{◌≡◌, sym, ap, ◌∙◌, subst}
use native.Mathlib.Omega.{arith}
use native.Mathlib.Nat.{mod-lt, add-sub_of_le}
use lib.Dec.{lit<}
use lib.ListN.{length, take, drop, length-drop}
use lib.Seq.{take_at}
use Rattle.wire.specs.Bytes.{Octets, byte_at, bytes32, in_words, word_at}
use Rattle.wire.specs.Lent.{leaves, Wrote}
use Rattle.wire.proofs.Words.{word_back, four-back, word-here}
use Rattle.wire.proofs.Spelled.{split}
use Rattle.packet_kinds.specs.declared.IpFamily.{IpFamily}
use Rattle.packet_kinds.specs.declared.IpFamily.TheVariants.{V4}
use Rattle.packet_kinds.specs.Kinds.{location, encryption, location_number, encryption_number}
use Rattle.data_packet.specs.declared.DataPacket.{DataPacket}
use Rattle.data_packet.specs.Layout.{header_size, field, up, record_of, sequence, message, control_bit, location_bits, in_order_bit, encryption_bits, retransmitted_bit}
use Rattle.data_packet.specs.Reading.{parsed, where_read, payload_of}
use Rattle.data_packet.specs.Writing.{bit_of, second_word, bytes_of, judged}
use Rattle.data_packet.proofs.Fields.{Fields, fields-of-sum, sum-of-fields, location-back, encryption-back, up-back, location-number, encryption-number, bit-number, location-small, encryption-small, bit-small}
use Rattle.data_packet.proofs.Read.{accepted, read_whole, read-within, read-data, read-key, read-also, read-record}
use Rattle.data_packet.proofs.Write.{Writable, writes, writes-only, writes-length}

below-three : {n : ℕ} → n < 4 → (n ≡ 3 → ⊥) → n < 3
below-three h k = omega arith

module _ (s : List ℕ) (bytes : Octets s) (whole : header_size ≤ length s) where
  word_fits : (i : ℕ) → i < 4 → word_at s i < 2 ^ 32
  word_fits i h = omega (arith, word-here s i (omega arith), bytes (4 * i), bytes (4 * i + 1), bytes (4 * i + 2), bytes (4 * i + 3))

  -- a word of the bytes, written, is its four bytes
  word-again : (i : ℕ) → i < 4 → bytes32 (word_at s i) ≡ byte_at s (4 * i) ∷ byte_at s (4 * i + 1) ∷ byte_at s (4 * i + 2) ∷ byte_at s (4 * i + 3) ∷ []
  word-again i h = ap bytes32 (word-here s i (omega arith)) ∙ four-back _ _ _ _ (bytes (4 * i)) (bytes (4 * i + 1)) (bytes (4 * i + 2)) (bytes (4 * i + 3))

  sequence-again : (control_bit s ≡ 1 → ⊥) → sequence s ≡ word_at s 0
  sequence-again is-data = let h = word_fits 0 (lit< tt) in omega arith

  second-again : (f : IpFamily) → (encryption_bits s ≡ 3 → ⊥) → second_word (record_of s f) ≡ word_at s 1
  unfolding second_word record_of location encryption
  second-again f key =
      let l = location-number (location_bits s) (mod-lt _ (lit< tt)) in
      let o = bit-number (in_order_bit s) (mod-lt _ (lit< tt)) in
      let k = encryption-number (encryption_bits s) (below-three (mod-lt _ (lit< tt)) key) in
      let r = bit-number (retransmitted_bit s) (mod-lt _ (lit< tt)) in
      (λ i. l i * 2 ^ 30 + o i * 2 ^ 29 + k i * 2 ^ 27 + r i * 2 ^ 26 + message s) ∙ sum-of-fields (word_at s 1) (word_fits 1 (lit< tt))

  header-again : bytes32 (word_at s 0) ++ bytes32 (word_at s 1) ++ bytes32 (word_at s 2) ++ bytes32 (word_at s 3) ++ drop header_size s ≡ s
  header-again = (λ j. word-again 0 (lit< tt) j ++ word-again 1 (lit< tt) j ++ word-again 2 (lit< tt) j ++ word-again 3 (lit< tt) j ++ drop header_size s) ∙ sym (split header_size s whole)

-- "Writing an accepted packet's record and payload gives its bytes again"
pub written-again : (s : List ℕ) (f : IpFamily) → Octets s → {p : DataPacket} → parsed s f ≡ Ok p → bytes_of p (payload_of s) ≡ s
unfolding bytes_of second_word record_of
written-again s f bytes read =
    (λ i. bytes_of (read-record s f read i) (where_read (read-also s f read V4 i) (drop header_size s)))
    ∙ (λ i. bytes32 (sequence-again s bytes (read_whole s f read) (read-data s f read) i) ++ bytes32 (second-again s bytes (read_whole s f read) f (read-key s f read) i) ++ bytes32 (word_at s 2) ++ bytes32 (word_at s 3) ++ drop header_size s)
    ∙ header-again s bytes (read_whole s f read)

-- the writer takes such a packet, wherever there is room for it
pub written-fits : (s : List ℕ) (f : IpFamily) → {p : DataPacket} → parsed s f ≡ Ok p → (room : ℕ) → length s ≤ room → judged p (length (payload_of s)) room ≡ Ok (length s)
unfolding record_of
written-fits s f {p} read room h =
    let n = length (payload_of s) in
    let long : header_size + n ≡ length s = ap (λ (r : Result DataPacket Refusal). header_size + length (where_read r (drop header_size s))) (read-also s f read V4) ∙ ap (λ (k : ℕ). header_size + k) (length-drop header_size s) ∙ add-sub_of_le (read_whole s f read) in
    let seq : p.seq_number.0 < 2 ^ 31 = subst (λ (q : DataPacket). q.seq_number.0 < 2 ^ 31) (sym (read-record s f read)) (mod-lt _ (lit< tt)) in
    let msg : p.message_number.0 < 2 ^ 26 = subst (λ (q : DataPacket). q.message_number.0 < 2 ^ 26) (sym (read-record s f read)) (mod-lt _ (lit< tt)) in
    writes p n room (record { within = omega (arith, read-within s f read); sequence = seq; message = msg; fits = omega arith }) ∙ ap Ok long

low : {a : ℕ} → a < 2 ^ 31 → field 0 31 a ≡ a
low h = omega arith

no-control : {a : ℕ} → a < 2 ^ 31 → field 31 1 a ≡ 1 → ⊥
no-control h e = omega arith

-- a record's two plain words are 32 bits wide, as their types have it
pub record IsRecord (p : DataPacket) : Type 0 where
  pub timestamp : p.timestamp.0 < 2 ^ 32
  pub socket : p.dest_sockid.0 < 2 ^ 32

module _ (p : DataPacket) (payload : List ℕ) (is-record : IsRecord p) (room : ℕ) {n : ℕ} (taken : judged p (length payload) room ≡ Ok n) where
  can : Writable p (length payload) room
  can = writes-only p (length payload) room taken

  second : Fields (location_number p.message_loc) (bit_of p.in_order_delivery) (encryption_number p.encryption) (bit_of p.retransmitted) p.message_number.0 (second_word p)
  unfolding second_word
  second = fields-of-sum _ _ _ _ _ (location-small p.message_loc) (bit-small p.in_order_delivery) (encryption-small p.encryption) (bit-small p.retransmitted) can.message

  abbrev s : List ℕ
  s = bytes_of p payload

  word0 : word_at s 0 ≡ p.seq_number.0
  unfolding bytes_of in_words
  word0 = word_back _ (omega (arith, can.sequence))

  word1 : word_at s 1 ≡ second_word p
  unfolding bytes_of in_words
  word1 = word_back _ second.fits

  word2 : word_at s 2 ≡ p.timestamp.0
  unfolding bytes_of in_words
  word2 = word_back _ is-record.timestamp

  word3 : word_at s 3 ≡ p.dest_sockid.0
  unfolding bytes_of in_words
  word3 = word_back _ is-record.socket

  long : length s ≡ header_size + length payload
  unfolding bytes_of
  long = omega arith

  record-back : record_of s p.family ≡ p
  unfolding record_of location encryption
  record-back =
      let seq : sequence s ≡ p.seq_number.0 = ap (field 0 31) word0 ∙ low can.sequence in
      let msg : message s ≡ p.message_number.0 = ap (field 0 26) word1 ∙ second.msg in
      let loc = ap location (ap (field 30 2) word1 ∙ second.loc) ∙ location-back p.message_loc in
      let ord = ap up (ap (field 29 1) word1 ∙ second.ord) ∙ up-back p.in_order_delivery in
      let enc = ap encryption (ap (field 27 2) word1 ∙ second.key) ∙ encryption-back p.encryption in
      let ret = ap up (ap (field 26 1) word1 ∙ second.ret) ∙ up-back p.retransmitted in
      λ i. record {
        seq_number = record { 0 = seq i };
        message_loc = loc i;
        in_order_delivery = ord i;
        encryption = enc i;
        retransmitted = ret i;
        message_number = record { 0 = msg i };
        timestamp = record { 0 = word2 i };
        dest_sockid = record { 0 = word3 i };
        family = p.family;
      }

  is-data : control_bit s ≡ 1 → ⊥
  is-data h = no-control can.sequence (sym (ap (field 31 1) word0) ∙ h)

  key : encryption_bits s ≡ 3 → ⊥
  key h = let k : encryption_number p.encryption ≡ 3 = sym (ap (field 27 2) word1 ∙ second.key) ∙ h in omega (arith, encryption-small p.encryption)

  packet-back : parsed s p.family ≡ Ok p
  packet-back =
      let w = can.within in
      accepted s p.family (omega (arith, long)) (omega (arith, long)) is-data key ∙ ap Ok record-back

  payload-back : payload_of s ≡ payload
  unfolding bytes_of
  payload-back = ap (λ (r : Result DataPacket Refusal). where_read r payload) (read-also s p.family packet-back V4)

  -- what was written is the front of the buffer, as long as the answer says
  front : (rest : List ℕ) → take n (s ++ rest) ≡ s
  front rest = take_at s rest n (long ∙ sym (writes-length p (length payload) room taken))

-- reading what the writer wrote, which is the front of the buffer as it leaves it, gives the record and the payload back
pub read_back : (p : DataPacket) (payload into : List ℕ) → IsRecord p → {n : ℕ} {last : List ℕ} → Wrote (judged p (length payload) (length into)) (bytes_of p payload) into (Ok n) last
    → (parsed (take n last) p.family ≡ Ok p) × (payload_of (take n last) ≡ payload)
read_back p payload into is-record {n} {last} done =
    let taken = sym done.answer in
    let wrote : take n last ≡ bytes_of p payload =
    ap (take n) done.contents ∙ front p payload is-record (length into) taken (drop n into) in
    (ap (λ (b : List ℕ). parsed b p.family) wrote ∙ packet-back p payload is-record (length into) taken, ap payload_of wrote ∙ payload-back p payload is-record (length into) taken)

-- writing what was read puts the packet's bytes into the buffer again, and leaves the rest of it as it was
pub rewritten : (s into : List ℕ) (f : IpFamily) → Octets s → {p : DataPacket} → parsed s f ≡ Ok p → length s ≤ length into
    → {r : Result ℕ Refusal} {last : List ℕ} → Wrote (judged p (length (payload_of s)) (length into)) (bytes_of p (payload_of s)) into r last → (r ≡ Ok (length s)) × (last ≡ s ++ drop (length s) into)
rewritten s into f bytes {p} read room {r} {last} done =
    let taken = done.answer ∙ written-fits s f read (length into) room in
    (taken, done.contents ∙ (λ i. leaves (taken i) (written-again s f bytes read i) into))
