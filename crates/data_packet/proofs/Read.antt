-- The five cases of `parsed`, each from the facts that lead to it; and that the reader accepts exactly the packets that RULES 4.2 accepts,
-- said of the bytes themselves.
-- Assumes nothing.
use Rattle.std.specs.Prelude.{Ok, Err}
use Prim.Native.Nat.{ℕ, ◌+◌, ◌*◌, ◌/◌, ◌%◌, ◌<◌, ◌≤◌}
use mathlib.Core.List.{List}
use mathlib.Core.Path.{◌≡◌, sym, ap, ◌∙◌}
use mathlib.Core.Bool.{cond}
use native.Mathlib.Omega.{arith}
use native.Mathlib.Decide.{dec_le}
use native.Mathlib.Nat.{lt_of_not-le}
use lib.ListN.{length, get_or, take}
use lib.Seq.{get_or-take}
use lib.Dec.{ltb, eqb, lit≤}
use borrow.Author.Tests.{lt-ltb, le-ltb, eq-eqb, ne_eqb}
use Rattle.refusal.specs.declared.Refusal.TheVariants.{NotEnoughData, ControlBit, BadDataEncryption, TooLong}
use Rattle.wire.specs.Bytes.{Octets, byte_at, number32, word_at}
use Rattle.wire.proofs.Words.{word-here}
use Rattle.packet_kinds.specs.declared.IpFamily.{IpFamily}
use Rattle.packet_kinds.specs.Kinds.{location, encryption}
use Rattle.data_packet.specs.declared.DataPacket.{DataPacket}
use Rattle.data_packet.specs.Layout.{header_size, payload_max, field, up, control_bit, encryption_bits, record_of}
use Rattle.data_packet.specs.Reading.{parsed}

module _ (s : List ℕ) (f : IpFamily) where
  pub short : length s < header_size → parsed s f ≡ Err NotEnoughData
  unfolding parsed
  short h = simp (lt-ltb _ _ h)

  pub long : header_size + payload_max < length s → parsed s f ≡ Err (TooLong payload_max)
  unfolding parsed
  long h =
      let whole : header_size ≤ length s = omega arith in
      simp (le-ltb _ _ whole, lt-ltb _ _ h)

  module _ (whole : header_size ≤ length s) (within : length s ≤ header_size + payload_max) where
    pub control : control_bit s ≡ 1 → parsed s f ≡ Err ControlBit
    unfolding parsed
    control h = simp (le-ltb _ _ whole, le-ltb _ _ within, eq-eqb _ _ h)

    module _ (is-data : control_bit s ≡ 1 → ⊥) where
      pub bad-key : encryption_bits s ≡ 3 → parsed s f ≡ Err (BadDataEncryption 0x18)
      unfolding parsed
      bad-key h = simp (le-ltb _ _ whole, le-ltb _ _ within, ne_eqb _ _ is-data, eq-eqb _ _ h)

      pub accepted : (encryption_bits s ≡ 3 → ⊥) → parsed s f ≡ Ok (record_of s f)
      unfolding parsed
      accepted h = simp (le-ltb _ _ whole, le-ltb _ _ within, ne_eqb _ _ is-data, ne_eqb _ _ h)

-- the packets that RULES 4.2 accepts: sixteen bytes and at most 65,535 more, the first bit zero, the two key bits not both set
pub record Acceptable (s : List ℕ) : Type 0 where
  pub whole : header_size ≤ length s
  pub within : length s ≤ header_size + payload_max
  pub first_bit : get_or s 0 0 < 128
  pub key-bits : get_or s 4 0 / 8 % 4 ≡ 3 → ⊥

abbrev pub Accepted : List ℕ → IpFamily → Type 0
Accepted s f = (p : DataPacket) × (parsed s f ≡ Ok p)

module _ (s : List ℕ) (f : IpFamily) {p : DataPacket} (read : parsed s f ≡ Ok p) where
  pub read_whole : header_size ≤ length s
  read_whole = elim (dec_le header_size (length s)) [ yes h ↦ h | no h ↦ (let z : ◌≡◌ {A = ℕ} 0 1 = cc (short s f (lt_of_not-le h)) in omega arith) ]

  pub read-within : length s ≤ header_size + payload_max
  read-within = elim (dec_le (length s) (header_size + payload_max)) [ yes h ↦ h | no h ↦ (let z : ◌≡◌ {A = ℕ} 0 1 = cc (long s f (lt_of_not-le h)) in omega arith) ]

  pub read-data : control_bit s ≡ 1 → ⊥
  read-data h = let z : ◌≡◌ {A = ℕ} 0 1 = cc (control s f read_whole read-within h) in omega arith

  pub read-key : encryption_bits s ≡ 3 → ⊥
  read-key h = let z : ◌≡◌ {A = ℕ} 0 1 = cc (bad-key s f read_whole read-within read-data h) in omega arith

  -- what one family's reader accepts, so does the other's
  pub read-also : (g : IpFamily) → parsed s g ≡ Ok (record_of s g)
  read-also g = accepted s g read_whole read-within read-data read-key

  pub read-record : p ≡ record_of s f
  read-record = cc (read-also f)

-- a word's top bits are its first byte's
module _ (s : List ℕ) (bytes : Octets s) (whole : header_size ≤ length s) where
  control-byte : control_bit s ≡ byte_at s 0 / 128
  control-byte = omega (arith, word-here s 0 (omega arith), bytes 0, bytes 1, bytes 2, bytes 3)

  encryption-byte : encryption_bits s ≡ byte_at s 4 / 8 % 4
  encryption-byte = omega (arith, word-here s 1 (omega arith), bytes 4, bytes 5, bytes 6, bytes 7)

-- the reader accepts what the rules accept ..
pub accepts : (s : List ℕ) (f : IpFamily) → Octets s → Acceptable s → parsed s f ≡ Ok (record_of s f)
accepts s f b a =
    accepted s f a.whole a.within (omega (arith, control-byte s b a.whole, a.first_bit)) (λ h. a.key-bits (sym (encryption-byte s b a.whole) ∙ h))

-- .. and nothing else
pub accepts-only : (s : List ℕ) (f : IpFamily) → Octets s → Accepted s f → Acceptable s
accepts-only s f b (p, read) = record {
  whole = read_whole s f read;
  within = read-within s f read;
  first_bit = omega (arith, control-byte s b (read_whole s f read), b 0, read-data s f read);
  key-bits = λ h. read-key s f read (encryption-byte s b (read_whole s f read) ∙ h);
}

-- the reader looks at the sixteen bytes and the length, and at nothing of the payload
module _ (s t : List ℕ) (f : IpFamily) (same : take header_size s ≡ take header_size t) where
  same_byte : (i : ℕ) → i < header_size → byte_at s i ≡ byte_at t i
  same_byte i h = sym (get_or-take header_size s i 0 h) ∙ ap (λ (l : List ℕ). byte_at l i) same ∙ get_or-take header_size t i 0 h

  module _ (len : length s ≡ length t) (whole : header_size ≤ length s) where
    same_word : (i : ℕ) → 4 * i + 4 ≤ header_size → word_at s i ≡ word_at t i
    same_word i h =
        let a = same_byte (4 * i) (omega arith) in
        let b = same_byte (4 * i + 1) (omega arith) in
        let c = same_byte (4 * i + 2) (omega arith) in
        let d = same_byte (4 * i + 3) (omega arith) in
        word-here s i (omega arith) ∙ (λ j. number32 (a j) (b j) (c j) (d j)) ∙ sym (word-here t i (omega arith))

    same-record : record_of s f ≡ record_of t f
    unfolding record_of location encryption
    same-record =
        let w0 = same_word 0 (lit≤ tt) in
        let w1 = same_word 1 (lit≤ tt) in
        λ i. record {
          seq_number = record { 0 = field 0 31 (w0 i) };
          message_loc = location (field 30 2 (w1 i));
          in_order_delivery = up (field 29 1 (w1 i));
          encryption = encryption (field 27 2 (w1 i));
          retransmitted = up (field 26 1 (w1 i));
          message_number = record { 0 = field 0 26 (w1 i) };
          timestamp = record { 0 = same_word 2 (lit≤ tt) i };
          dest_sockid = record { 0 = same_word 3 (lit≤ tt) i };
          family = f;
        }

    same_answer : parsed s f ≡ parsed t f
    unfolding parsed
    same_answer =
        let w0 = same_word 0 (lit≤ tt) in
        let w1 = same_word 1 (lit≤ tt) in
        λ i. cond (ltb (len i) header_size) (Err NotEnoughData)
        (cond (ltb (header_size + payload_max) (len i)) (Err (TooLong payload_max))
        (cond (eqb (field 31 1 (w0 i)) 1) (Err ControlBit)
        (cond (eqb (field 27 2 (w1 i)) 3) (Err (BadDataEncryption 0x18)) (Ok (same-record i)))))

  pub payload-unseen : length s ≡ length t → parsed s f ≡ parsed t f
  payload-unseen len =
      elim (dec_le header_size (length s))
      [ yes h ↦ same_answer len h | no h ↦ short s f (lt_of_not-le h) ∙ sym (short t f (omega (arith, lt_of_not-le h))) ]
