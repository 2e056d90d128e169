-- The five cases of `judged`, each from the facts that lead to it; and that the writer accepts exactly what RULES 4.5 accepts.
-- Assumes nothing.
use Rattle.std.specs.Prelude.{Ok, Err}
use Prim.Native.Nat.{ℕ, ◌+◌, ◌^◌, ◌<◌, ◌≤◌}
use mathlib.Core.Path.{◌≡◌}
use native.Mathlib.Omega.{arith}
use native.Mathlib.Decide.{dec_le}
use native.Mathlib.Nat.{lt_of_not-le}
use borrow.Author.Tests.{lt-ltb, le-ltb, le-leb, lt-leb}
use Rattle.refusal.specs.declared.Field.TheVariants.{Sequence, Message}
use Rattle.refusal.specs.declared.Refusal.TheVariants.{FieldTooWide, NoRoom, TooLong}
use Rattle.data_packet.specs.declared.DataPacket.{DataPacket}
use Rattle.data_packet.specs.Layout.{header_size, payload_max}
use Rattle.data_packet.specs.Writing.{judged}

module _ (p : DataPacket) (n room : ℕ) where
  pub too_long : payload_max < n → judged p n room ≡ Err (TooLong payload_max)
  unfolding judged
  too_long h = simp (lt-ltb _ _ h)

  module _ (within : n ≤ payload_max) where
    pub wide-sequence : 2 ^ 31 ≤ p.seq_number.0 → judged p n room ≡ Err (FieldTooWide Sequence)
    unfolding judged
    wide-sequence h = simp (le-ltb _ _ within, le-leb _ _ h)

    module _ (sequence : p.seq_number.0 < 2 ^ 31) where
      pub wide-message : 2 ^ 26 ≤ p.message_number.0 → judged p n room ≡ Err (FieldTooWide Message)
      unfolding judged
      wide-message h = simp (le-ltb _ _ within, lt-leb _ _ sequence, le-leb _ _ h)

      module _ (message : p.message_number.0 < 2 ^ 26) where
        pub no_room : room < header_size + n → judged p n room ≡ Err (NoRoom (header_size + n))
        unfolding judged
        no_room h = simp (le-ltb _ _ within, lt-leb _ _ sequence, lt-leb _ _ message, lt-ltb _ _ h)

        pub written : header_size + n ≤ room → judged p n room ≡ Ok (header_size + n)
        unfolding judged
        written h = simp (le-ltb _ _ within, lt-leb _ _ sequence, lt-leb _ _ message, le-ltb _ _ h)

-- what RULES 4.5 has written: a payload of at most 65,535 bytes, numbers that fit their fields, and room
pub record Writable (p : DataPacket) (n room : ℕ) : Type 0 where
  pub within : n ≤ payload_max
  pub sequence : p.seq_number.0 < 2 ^ 31
  pub message : p.message_number.0 < 2 ^ 26
  pub fits : header_size + n ≤ room

-- the writer accepts that ..
pub writes : (p : DataPacket) (n room : ℕ) → Writable p n room → judged p n room ≡ Ok (header_size + n)
writes p n room w = written p n room w.within w.sequence w.message w.fits

-- .. and nothing else, and answers the length
module _ (p : DataPacket) (n room : ℕ) {m : ℕ} (accepted : judged p n room ≡ Ok m) where
  was-within : n ≤ payload_max
  was-within = elim (dec_le n payload_max) [ yes h ↦ h | no h ↦ (let z : ◌≡◌ {A = ℕ} 0 1 = cc (too_long p n room (lt_of_not-le h)) in omega arith) ]

  was-sequence : p.seq_number.0 < 2 ^ 31
  was-sequence =
      elim (dec_le (2 ^ 31) p.seq_number.0)
      [ yes h ↦ (let z : ◌≡◌ {A = ℕ} 0 1 = cc (wide-sequence p n room was-within h) in omega arith) | no h ↦ lt_of_not-le h ]

  was-message : p.message_number.0 < 2 ^ 26
  was-message =
      elim (dec_le (2 ^ 26) p.message_number.0)
      [ yes h ↦ (let z : ◌≡◌ {A = ℕ} 0 1 = cc (wide-message p n room was-within was-sequence h) in omega arith) | no h ↦ lt_of_not-le h ]

  was-fits : header_size + n ≤ room
  was-fits =
      elim (dec_le (header_size + n) room)
      [ yes h ↦ h | no h ↦ (let z : ◌≡◌ {A = ℕ} 0 1 = cc (no_room p n room was-within was-sequence was-message (lt_of_not-le h)) in omega arith) ]

  pub writes-only : Writable p n room
  writes-only = record { within = was-within; sequence = was-sequence; message = was-message; fits = was-fits }

  pub writes-length : m ≡ header_size + n
  writes-length = cc (writes p n room writes-only)
