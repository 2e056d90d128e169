-- A program that knows of ten words is answered as ever: no answer, no word that is read and no byte that is written depends on the family, or on anything
-- else that stands after the ten. Assumes nothing.
use Rattle.refusal.specs.declared.Refusal.{Refusal}
use Rattle.std.specs.Prelude.{Result, Ok, Err}
use Prim.Native.Nat.{ℕ, ◌<◌, ◌≤◌}
use mathlib.Core.Path.{◌≡◌, refl, sym, ap, ◌∙◌}
use mathlib.Core.Bool.{Bool, true, false, cond}
use mathlib.Core.List.{List, ◌++◌}
use lib.Dec.{lit<}
use native.Mathlib.Nat.{le_of_eq}
use borrow.Author.Tests.{le-ltb}
use lib.ListN.{length, get_or, take, drop, take-append-drop, drop_of_length-le}
use lib.Seq.{get_or-take, length-take-le}
use Rattle.refusal.specs.declared.Refusal.TheVariants.{BadDataEncryption}
use Rattle.packet_kinds.specs.declared.IpFamily.{IpFamily}
use Rattle.data_packet.specs.declared.DataPacket.{DataPacket}
use Rattle.data_packet.specs.Reading.{parsed}
use Rattle.data_packet.specs.Writing.{bytes_of, judged}
use Rattle.data_packet.proofs.Family.{by, read_by, family-alone, bytes-alike, judged-alike}
use Rattle.data_fields.specs.Data.{field_count, family_in, is_up, location_from, encryption_from, keys_clash, fields_of, record_from, record_given, judged_given, data_answered, data_read, fields_left, data_written}

answer-by : (g : IpFamily) (x : Result DataPacket Refusal) (bytes room : ℕ) → data_read (read_by g x) bytes room ≡ data_read x bytes room
unfolding data_read data_answered
answer-by g (Ok p) bytes room = refl
answer-by g (Err r) bytes room = refl

left_by : (g : IpFamily) (x : Result DataPacket Refusal) (held : List ℕ) → fields_left (read_by g x) held ≡ fields_left x held
unfolding fields_left
left_by g (Ok p) held = refl
left_by g (Err r) held = refl

-- reading, by either family
module _ (bs : List ℕ) (f g : IpFamily) where
  pub answer-alike : (bytes room : ℕ) → data_read (parsed bs g) bytes room ≡ data_read (parsed bs f) bytes room
  answer-alike bytes room = ap (λ (x : Result DataPacket Refusal). data_read x bytes room) (family-alone bs f g) ∙ answer-by g (parsed bs f) bytes room

  pub left-alike : (held : List ℕ) → fields_left (parsed bs g) held ≡ fields_left (parsed bs f) held
  left-alike held = ap (λ (x : Result DataPacket Refusal). fields_left x held) (family-alone bs f g) ∙ left_by g (parsed bs f) held

-- writing, of two records that are judged alike
given-alike : (n room : ℕ) (p q : DataPacket) (clash : Bool) (r : Refusal) → judged p n room ≡ judged q n room → judged_given (cond clash (Err r) (Ok p)) n room ≡ judged_given (cond clash (Err r) (Ok q)) n room
given-alike n room p q true r e = refl
given-alike n room p q false r e = e

-- ten words, and more

module _ (ws : List ℕ) (h : field_count ≤ length ws) where
  abbrev ten : List ℕ
  ten = take field_count ws

  long : length ten ≡ field_count
  long = length-take-le field_count ws h

  answer-ten : (x : Result DataPacket Refusal) (bytes : ℕ) → data_read x bytes (length ten) ≡ data_read x bytes (length ws)
  unfolding data_read data_answered
  answer-ten (Ok p) bytes = simp (le-ltb (length ten) field_count (le_of_eq (sym long)), le-ltb (length ws) field_count h)
  answer-ten (Err r) bytes = refl

  left-ten : (x : Result DataPacket Refusal) → fields_left x ws ≡ fields_left x ten ++ drop field_count ws
  unfolding fields_left
  left-ten (Ok p) =
      simp (le-ltb (length ten) field_count (le_of_eq (sym long)), le-ltb (length ws) field_count h)
      (λ i. (fields_of p ++ sym (drop_of_length-le ten (le_of_eq long)) i) ++ drop field_count ws)
  left-ten (Err r) = sym (take-append-drop field_count ws)

  -- reading into more words than ten answers as into the ten, and leaves the others as they were
  pub ten-answered : (bs : List ℕ) → data_read (parsed bs (family_in ten)) (length bs) (length ten) ≡ data_read (parsed bs (family_in ws)) (length bs) (length ws)
  ten-answered bs = answer-alike bs (family_in ws) (family_in ten) (length bs) (length ten) ∙ answer-ten (parsed bs (family_in ws)) (length bs)

  pub ten-left : (bs : List ℕ) → fields_left (parsed bs (family_in ws)) ws ≡ fields_left (parsed bs (family_in ten)) ten ++ drop field_count ws
  ten-left bs = left-ten (parsed bs (family_in ws)) ∙ ap (λ (l : List ℕ). l ++ drop field_count ws) (left-alike bs (family_in ten) (family_in ws) ten)

  same : (k : ℕ) → k < field_count → get_or ten k 0 ≡ get_or ws k 0
  same k b = get_or-take field_count ws k 0 b

  record-by : record_from ten ≡ by (family_in ten) (record_from ws)
  unfolding record_from
  record-by = λ i. record {
    seq_number = record { 0 = same 0 (lit< tt) i };
    message_loc = location_from (is_up (same 1 (lit< tt) i)) (is_up (same 2 (lit< tt) i));
    in_order_delivery = is_up (same 3 (lit< tt) i);
    encryption = encryption_from (is_up (same 4 (lit< tt) i)) (is_up (same 5 (lit< tt) i));
    retransmitted = is_up (same 6 (lit< tt) i);
    message_number = record { 0 = same 7 (lit< tt) i };
    timestamp = record { 0 = same 8 (lit< tt) i };
    dest_sockid = record { 0 = same 9 (lit< tt) i };
    family = family_in ten;
  }

  -- what is written of more words than ten is what is written of the ten
  pub ten-written : (n room : ℕ) → data_written ten n room ≡ data_written ws n room
  unfolding data_written record_given
  ten-written n room =
      let judgement = ap (λ (p : DataPacket). judged p n room) record-by ∙ judged-alike (family_in ten) (record_from ws) n room in
      simp (le-ltb (length ten) field_count (le_of_eq (sym long)), le-ltb (length ws) field_count h)
      ((λ i. judged_given (cond (keys_clash (is_up (same 4 (lit< tt) i)) (is_up (same 5 (lit< tt) i))) (Err (BadDataEncryption 0x18)) (Ok (record_from ten))) n room)
      ∙ given-alike n room _ _ (keys_clash (is_up (get_or ws 4 0)) (is_up (get_or ws 5 0))) _ judgement)

  pub ten-bytes : (payload : List ℕ) → bytes_of (record_from ten) payload ≡ bytes_of (record_from ws) payload
  ten-bytes payload = ap (λ (p : DataPacket). bytes_of p payload) record-by ∙ bytes-alike (family_in ten) (record_from ws) payload
