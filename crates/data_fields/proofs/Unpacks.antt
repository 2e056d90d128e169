-- No answer is ambiguous: C finds 0 in the upper half of every accepted one, and in that of every refusal its number, which is never 0 (`number_in`); in the lower
-- half it finds the payload's or the packet's length, the wire size, or what the refusal carries. Assumes nothing.
use Rattle.std.specs.Prelude.{Ok, Err}
use mathlib.Core.Path.{◌≡◌}
use mathlib.Core.List.{List}
use Prim.Native.Nat.{ℕ, ◌+◌, ◌-◌, ◌≤◌}
use native.Mathlib.Omega.{arith}
use native.Mathlib.Decide.{dec_le}
use native.Mathlib.Nat.{lt_of_not-le}
use lib.Dec.{lit≤}
use lib.ListN.{length}
use Rattle.refusal.specs.declared.Refusal.{Refusal}
use Rattle.refusal.specs.Refusal.{number_of, carried_by}
use Rattle.answer.specs.Packed.{packed, Halves}
use Rattle.answer.proofs.Halves.{accepted-halves, refused-halves}
use Rattle.packet_kinds.specs.declared.IpFamily.{IpFamily}
use Rattle.packet_kinds.specs.declared.IpFamily.TheVariants.{V4, V6}
use Rattle.data_packet.specs.declared.DataPacket.{DataPacket}
use Rattle.data_packet.specs.Layout.{header_size, payload_max, wire_header}
use Rattle.data_packet.specs.Reading.{parsed}
use Rattle.data_packet.specs.Writing.{judged, wire_size}
use Rattle.data_packet.proofs.Read.{read-within}
use Rattle.data_packet.proofs.Family.{sized, unsized}
use Rattle.data_packet.proofs.Write.{writes-only, writes-length}
use Rattle.data_fields.proofs.DataLaws.{parsed-small, judged-small, size_small}

module _ (bs : List ℕ) (f : IpFamily) where
  pub payload-unpack : {d : DataPacket} → parsed bs f ≡ Ok d → Halves (length bs - header_size) 0 (length bs - header_size)
  payload-unpack e = accepted-halves _ (omega (arith, read-within bs f e))

  pub unread-unpack : {r : Refusal} → parsed bs f ≡ Err r → Halves (packed r) (number_of r) (carried_by r)
  unread-unpack {r} e = refused-halves r (parsed-small bs f e)

module _ (d : DataPacket) (n room : ℕ) where
  pub bytes-unpack : {m : ℕ} → judged d n room ≡ Ok m → Halves m 0 m
  bytes-unpack e = accepted-halves _ (omega (arith, writes-length d n room e, (writes-only d n room e).within))

  pub not-written-unpack : {r : Refusal} → judged d n room ≡ Err r → Halves (packed r) (number_of r) (carried_by r)
  not-written-unpack {r} e = refused-halves r (judged-small d n room e)

header-small : (f : IpFamily) → wire_header f ≤ 64
header-small V4 = lit≤ tt
header-small V6 = lit≤ tt

module _ (f : IpFamily) (n : ℕ) where
  pub size-unpack : {m : ℕ} → wire_size f n ≡ Ok m → Halves m 0 m
  size-unpack {m} e =
      elim (dec_le n payload_max) [
        | yes h ↦ (let long : m ≡ wire_header f + n = cc (sized f n h) in accepted-halves _ (omega (arith, header-small f)))
        | no h ↦ (let z : ◌≡◌ {A = ℕ} 0 1 = cc (unsized f n (lt_of_not-le h)) in absurd (omega arith))
      ]

  pub no-size-unpack : {r : Refusal} → wire_size f n ≡ Err r → Halves (packed r) (number_of r) (carried_by r)
  no-size-unpack {r} e = refused-halves r (size_small f n e)
