-- Worked cases of RULES 2, 3, 4, 6 and 10, as one table of questions and answers.
-- Assumes nothing.
use Rattle.std.specs.Prelude.{ℕ, true, List, [], ◌∷◌, ◌++◌, take, replicate, ℤ, pos, neg_ℤ, Option, Some, None, Result, Ok, Err}
use Rattle.ring.specs.Ring.{compared, signed_distance}
use Rattle.ring.specs.declared.Ordering.{Ordering}
use Rattle.ring.specs.declared.Ordering.TheVariants.{Less, Equal, Greater, Opposite}
use Rattle.refusal.specs.declared.Refusal.{Refusal}
use Rattle.refusal.specs.Refusal.{number_of, carried_by}
use Rattle.loss_list.specs.Compress.{compressing, compressed}
use Rattle.loss_list.specs.Expand.{expanding, expanded}
use Rattle.why_lost.specs.WhyLost.{why_lost}
use Rattle.merging.specs.Merging.{union, merging}
use Rattle.key_checks.specs.KeyChecks.{Judged, key_judged}
use Rattle.data_packet.specs.Reading.{parsed, payload_of}
use Rattle.data_packet.specs.Writing.{wire_size}
use Rattle.data_packet.specs.declared.DataPacket.{DataPacket}
use Rattle.packet_kinds.specs.declared.PacketLocation.TheVariants.{Only}
use Rattle.packet_kinds.specs.declared.DataEncryption.TheVariants.{None as Unencrypted}
use Rattle.packet_kinds.specs.declared.IpFamily.{IpFamily}
use Rattle.packet_kinds.specs.declared.IpFamily.TheVariants.{V4, V6}
use Rattle.sheet.specs.Sheet.{Edition, first_edition, edition, sheet, writing}

-- Each list is given room for 65,536 words, numbers or bytes.
abbrev room : ℕ
room = 65536

-- Numbers are compared, and their signed distance is asked, in the ring of the width that stands first. Two lists are merged from the oldest number, which stands before them.
pub data Question : Type 0 where
  Compare : ℕ → ℕ → ℕ → Question
  Distance : ℕ → ℕ → ℕ → Question
  Compress : List ℕ → Question
  Expand : List ℕ → Question
  Why : List ℕ → ℕ → Question
  Merge : ℕ → List ℕ → List ℕ → Question
  Read : List ℕ → IpFamily → Question
  OnWire : IpFamily → ℕ → Question
  Sheet : Edition → List ℕ → Question
  Judge : List ℕ → Question

-- how one number stands to another and how far, a refusal's number and what it carries, the words, numbers or bytes written, the place of an item or none, the record and the payload, a size in bytes, or a key message's refusal
-- with the last byte that the failed check looked at
pub data Answer : Type 0 where
  Order : Ordering → Answer
  Steps : ℤ → Answer
  RefusalOf : ℕ → ℕ → Answer
  Words : List ℕ → Answer
  Place : ℕ → Answer
  NoPlace : Answer
  Record : DataPacket → List ℕ → Answer
  Long : ℕ → Answer
  Accepted : Answer
  Refused-at : ℕ → ℕ → Option ℕ → Answer

abbrev refused : Refusal → Answer
refused r = RefusalOf (number_of r) (carried_by r)

abbrev of_words : Result ℕ Refusal → List ℕ → Answer
of_words (Ok n) xs = Words (compressed xs)
of_words (Err r) xs = refused r

abbrev of-numbers : Result ℕ Refusal → List ℕ → Answer
of-numbers (Ok n) ws = Words (expanded ws)
of-numbers (Err r) ws = refused r

abbrev of-item : Result (Option ℕ) Refusal → Answer
of-item (Ok (Some p)) = Place p
of-item (Ok None) = NoPlace
of-item (Err r) = refused r

abbrev of-key : Judged → Answer
of-key (Ok tt) = Accepted
of-key (Err fault) = Refused-at (number_of (fault.refusal)) (carried_by (fault.refusal)) (fault.looked)

abbrev of-packet : Result DataPacket Refusal → List ℕ → Answer
of-packet (Ok p) bs = Record p (payload_of bs)
of-packet (Err r) bs = refused r

abbrev of_size : Result ℕ Refusal → Answer
of_size (Ok n) = Long n
of_size (Err r) = refused r

abbrev of-sheet : Edition → Result ℕ Refusal → List ℕ → Answer
of-sheet E (Ok n) ws = Words (sheet E ws)
of-sheet E (Err r) ws = refused r

abbrev pub answered : Question → Answer
answered (Compare k a b) = Order (compared k a b)
answered (Distance k a b) = Steps (signed_distance k a b)
answered (Compress xs) = of_words (compressing xs room) xs
answered (Expand ws) = of-numbers (expanding ws room) ws
answered (Why ws n) = of-item (why_lost ws n)
answered (Merge o ws vs) = of_words (merging o ws vs room) (union o ws vs)
answered (Read bs f) = of-packet (parsed bs f) bs
answered (OnWire f n) = of_size (wire_size f n)
answered (Sheet E ws) = of-sheet E (writing E ws room) ws
answered (Judge s) = of-key (key_judged s)

pub record Case : Type 0 where
  pub asked : Question
  pub answer : Answer

abbrev packet : ℕ → List ℕ
packet byte4 = 0 ∷ 0 ∷ 0 ∷ 5 ∷ byte4 ∷ 0 ∷ 0 ∷ 9 ∷ 0 ∷ 0 ∷ 1 ∷ 0 ∷ 0 ∷ 0 ∷ 0 ∷ 2 ∷ 0xAA ∷ []

-- the record of the packet whose byte 4 is 0xE4
abbrev known : IpFamily → DataPacket
known f =
    record {
      seq_number = record { 0 = 5 };
      message_loc = Only;
      in_order_delivery = true;
      encryption = Unencrypted;
      retransmitted = true;
      message_number = record { 0 = 9 };
      timestamp = record { 0 = 256 };
      dest_sockid = record { 0 = 2 };
      family = f;
    }

-- a key message of 56 bytes, but for its bytes 0, 2, 3, 8, 9, 10 and 15
abbrev message : ℕ → ℕ → ℕ → ℕ → ℕ → ℕ → ℕ → List ℕ
message a c d i j k p = a ∷ 0x20 ∷ c ∷ d ∷ 0 ∷ 0 ∷ 0 ∷ 0 ∷ i ∷ j ∷ k ∷ 0 ∷ 0 ∷ 0 ∷ 4 ∷ p ∷ replicate 40 0

-- the bytes of gaps 1 8192, and of gaps 2 65536
abbrev first-top : List ℕ
first-top = 103 ∷ 97 ∷ 112 ∷ 115 ∷ 9 ∷ 49 ∷ 9 ∷ 56 ∷ 49 ∷ 57 ∷ 50 ∷ 10 ∷ []

abbrev top : List ℕ
top = 103 ∷ 97 ∷ 112 ∷ 115 ∷ 9 ∷ 50 ∷ 9 ∷ 54 ∷ 53 ∷ 53 ∷ 51 ∷ 54 ∷ 10 ∷ []

-- .. of run 5 7, one 9, end 4
abbrev four-numbers : List ℕ
four-numbers =
    114 ∷ 117 ∷ 110 ∷ 9 ∷ 53 ∷ 9 ∷ 55 ∷ 10
    ∷ 111 ∷ 110 ∷ 101 ∷ 9 ∷ 57 ∷ 10
    ∷ 101 ∷ 110 ∷ 100 ∷ 9 ∷ 52 ∷ 10 ∷ []

-- .. of run 0 8191, end 8192
abbrev first-full : List ℕ
first-full =
    114 ∷ 117 ∷ 110 ∷ 9 ∷ 48 ∷ 9 ∷ 56 ∷ 49 ∷ 57 ∷ 49 ∷ 10
    ∷ 101 ∷ 110 ∷ 100 ∷ 9 ∷ 56 ∷ 49 ∷ 57 ∷ 50 ∷ 10 ∷ []

-- .. of run 0 8192, end 8193
abbrev past_first : List ℕ
past_first =
    114 ∷ 117 ∷ 110 ∷ 9 ∷ 48 ∷ 9 ∷ 56 ∷ 49 ∷ 57 ∷ 50 ∷ 10
    ∷ 101 ∷ 110 ∷ 100 ∷ 9 ∷ 56 ∷ 49 ∷ 57 ∷ 51 ∷ 10 ∷ []

-- .. of run 0 65535, end 65536
abbrev full : List ℕ
full =
    114 ∷ 117 ∷ 110 ∷ 9 ∷ 48 ∷ 9 ∷ 54 ∷ 53 ∷ 53 ∷ 51 ∷ 53 ∷ 10
    ∷ 101 ∷ 110 ∷ 100 ∷ 9 ∷ 54 ∷ 53 ∷ 53 ∷ 51 ∷ 54 ∷ 10 ∷ []

abbrev pub table : List Case
table =
    record { asked = Compare 31 0 0x40000000; answer = Order Opposite }
    ∷ record { asked = Compare 31 0x40000000 0; answer = Order Opposite }
    ∷ record { asked = Compare 31 0 0x3FFFFFFF; answer = Order Less }
    ∷ record { asked = Compare 31 0 0x40000001; answer = Order Greater }
    ∷ record { asked = Compare 31 0x7FFFFFFF 0xFFFFFFFF; answer = Order Equal }
    ∷ record { asked = Compare 26 0 0x2000000; answer = Order Opposite }
    ∷ record { asked = Compare 26 0x2000000 0; answer = Order Opposite }
    ∷ record { asked = Compare 26 0 0x1FFFFFF; answer = Order Less }
    ∷ record { asked = Compare 26 0 0x2000001; answer = Order Greater }
    ∷ record { asked = Distance 31 0 0x40000000; answer = Steps (neg_ℤ (pos 0x40000000)) }
    ∷ record { asked = Distance 26 0 0x2000000; answer = Steps (neg_ℤ (pos 0x2000000)) }
    ∷ record { asked = Compress []; answer = Words [] }
    ∷ record { asked = Compress (5 ∷ []); answer = Words (5 ∷ []) }
    ∷ record { asked = Compress (5 ∷ 6 ∷ []); answer = Words (5 ∷ 6 ∷ []) }
    ∷ record { asked = Compress (5 ∷ 6 ∷ 7 ∷ []); answer = Words (0x80000005 ∷ 7 ∷ []) }
    ∷ record { asked = Compress (5 ∷ 6 ∷ 7 ∷ 9 ∷ []); answer = Words (0x80000005 ∷ 7 ∷ 9 ∷ []) }
    ∷ record { asked = Compress (0x7FFFFFFE ∷ 0x7FFFFFFF ∷ 0 ∷ 1 ∷ []); answer = Words (0xFFFFFFFE ∷ 1 ∷ []) }
    ∷ record { asked = Expand (0xFFFFFFFE ∷ 1 ∷ []); answer = Words (0x7FFFFFFE ∷ 0x7FFFFFFF ∷ 0 ∷ 1 ∷ []) }
    ∷ record { asked = Compress (0 ∷ 0x3FFFFFFF ∷ []); answer = Words (0 ∷ 0x3FFFFFFF ∷ []) }
    ∷ record { asked = Compress (0 ∷ 0x40000000 ∷ []); answer = RefusalOf 16 1 }
    ∷ record { asked = Compress (0 ∷ 0x40000001 ∷ []); answer = RefusalOf 16 1 }
    ∷ record { asked = Compress (0x7FFFFFFF ∷ 0x3FFFFFFF ∷ []); answer = RefusalOf 16 1 }
    ∷ record { asked = Compress (5 ∷ 5 ∷ []); answer = RefusalOf 16 1 }
    ∷ record { asked = Expand (0x80000005 ∷ 6 ∷ []); answer = Words (5 ∷ 6 ∷ []) }
    ∷ record { asked = Expand (0x80000005 ∷ 5 ∷ []); answer = RefusalOf 19 1 }
    ∷ record { asked = Expand (0x80000000 ∷ 0x3FFFFFFF ∷ []); answer = RefusalOf 20 0 }
    ∷ record { asked = Expand (0x80000000 ∷ 0x40000000 ∷ []); answer = RefusalOf 19 1 }
    ∷ record { asked = Expand (0x80000005 ∷ []); answer = RefusalOf 17 0 }
    ∷ record { asked = Expand (0x80000005 ∷ 0x80000007 ∷ []); answer = RefusalOf 18 1 }
    ∷ record { asked = Expand (9 ∷ 3 ∷ []); answer = Words (9 ∷ 3 ∷ []) }
    ∷ record { asked = Expand (0x80000000 ∷ 65536 ∷ []); answer = RefusalOf 20 0 }
    ∷ record { asked = Why [] 5; answer = NoPlace }
    ∷ record { asked = Why (0x80000005 ∷ 7 ∷ 9 ∷ []) 5; answer = Place 0 }
    ∷ record { asked = Why (0x80000005 ∷ 7 ∷ 9 ∷ []) 7; answer = Place 0 }
    ∷ record { asked = Why (0x80000005 ∷ 7 ∷ 9 ∷ []) 8; answer = NoPlace }
    ∷ record { asked = Why (0x80000005 ∷ 7 ∷ 9 ∷ []) 9; answer = Place 2 }
    ∷ record { asked = Why (9 ∷ 0x80000005 ∷ 9 ∷ []) 9; answer = Place 0 }
    ∷ record { asked = Why (0xFFFFFFFE ∷ 1 ∷ []) 0; answer = Place 0 }
    ∷ record { asked = Why (0xFFFFFFFE ∷ 1 ∷ []) 2; answer = NoPlace }
    ∷ record { asked = Why (5 ∷ []) 0x80000005; answer = RefusalOf 15 0 }
    ∷ record { asked = Why (5 ∷ 0x80000005 ∷ []) 0x80000005; answer = RefusalOf 17 1 }
    ∷ record { asked = Merge 0 [] []; answer = Words [] }
    ∷ record { asked = Merge 0 (0x80000005 ∷ 7 ∷ []) (9 ∷ []); answer = Words (0x80000005 ∷ 7 ∷ 9 ∷ []) }
    ∷ record { asked = Merge 0 (9 ∷ []) (0x80000005 ∷ 7 ∷ []); answer = Words (0x80000005 ∷ 7 ∷ 9 ∷ []) }
    ∷ record { asked = Merge 0 (5 ∷ []) (6 ∷ []); answer = Words (5 ∷ 6 ∷ []) }
    ∷ record { asked = Merge 0 (5 ∷ 7 ∷ []) (6 ∷ []); answer = Words (0x80000005 ∷ 7 ∷ []) }
    ∷ record { asked = Merge 0 (0x80000005 ∷ 7 ∷ []) (0x80000008 ∷ 10 ∷ []); answer = Words (0x80000005 ∷ 10 ∷ []) }
    ∷ record { asked = Merge 0 (9 ∷ 3 ∷ 9 ∷ []) (3 ∷ 0x80000003 ∷ 5 ∷ []); answer = Words (0x80000003 ∷ 5 ∷ 9 ∷ []) }
    ∷ record { asked = Merge 0x7FFFFFFE (0 ∷ 1 ∷ []) (0x7FFFFFFE ∷ 0x7FFFFFFF ∷ []); answer = Words (0xFFFFFFFE ∷ 1 ∷ []) }
    ∷ record { asked = Merge 0x7FFFFFF0 (3 ∷ []) (0x7FFFFFF8 ∷ []); answer = Words (0x7FFFFFF8 ∷ 3 ∷ []) }
    ∷ record { asked = Merge 0 (0x3FFFFFFF ∷ []) (0 ∷ []); answer = Words (0 ∷ 0x3FFFFFFF ∷ []) }
    ∷ record { asked = Merge 0x40000000 [] (0 ∷ 0x40000000 ∷ []); answer = RefusalOf 29 0 }
    ∷ record { asked = Merge 5 (4 ∷ []) []; answer = RefusalOf 29 0 }
    ∷ record { asked = Merge 0 (7 ∷ 0xBFFFFFFE ∷ 0x40000000 ∷ []) (9 ∷ []); answer = RefusalOf 29 1 }
    ∷ record { asked = Merge 6 (9 ∷ 0x80000005 ∷ 7 ∷ []) []; answer = RefusalOf 29 1 }
    ∷ record { asked = Merge 0 (1 ∷ 0x40000000 ∷ []) (0x40000000 ∷ []); answer = RefusalOf 29 1 }
    ∷ record { asked = Merge 0 (1 ∷ []) (2 ∷ 3 ∷ 0x7FFFFFFF ∷ []); answer = RefusalOf 29 2 }
    ∷ record { asked = Merge 0x80000000 (0x80000005 ∷ []) []; answer = RefusalOf 15 0 }
    ∷ record { asked = Merge 0 (0x80000005 ∷ []) (0x80000005 ∷ 5 ∷ []); answer = RefusalOf 17 0 }
    ∷ record { asked = Merge 0 (0x40000000 ∷ []) (5 ∷ 0x80000005 ∷ 0x80000007 ∷ []); answer = RefusalOf 18 2 }
    ∷ record { asked = Merge 0 (5 ∷ []) (0x80000005 ∷ 5 ∷ []); answer = RefusalOf 19 1 }
    ∷ record { asked = Merge 0 (0x80000000 ∷ 65535 ∷ 0 ∷ []) []; answer = RefusalOf 20 2 }
    ∷ record { asked = Read (packet 0xE4) V4; answer = Record (known V4) (0xAA ∷ []) }
    ∷ record { asked = Read (packet 0xE4) V6; answer = Record (known V6) (0xAA ∷ []) }
    ∷ record { asked = Read (packet 0xFC) V4; answer = RefusalOf 3 0x18 }
    ∷ record { asked = Read (packet 0xFC) V6; answer = RefusalOf 3 0x18 }
    ∷ record { asked = OnWire V4 1; answer = Long 45 }
    ∷ record { asked = OnWire V6 1; answer = Long 65 }
    ∷ record { asked = OnWire V4 0; answer = Long 44 }
    ∷ record { asked = OnWire V6 0; answer = Long 64 }
    ∷ record { asked = OnWire V6 65535; answer = Long 65599 }
    ∷ record { asked = OnWire V4 65536; answer = RefusalOf 14 65535 }
    ∷ record { asked = OnWire V6 65536; answer = RefusalOf 14 65535 }
    ∷ record { asked = Sheet edition (0x80000005 ∷ 7 ∷ 9 ∷ []); answer = Words (top ++ four-numbers) }
    ∷ record { asked = Sheet edition (0x80000005 ∷ []); answer = RefusalOf 17 0 }
    ∷ record { asked = Sheet edition (0x80000000 ∷ 8192 ∷ []); answer = Words (top ++ past_first) }
    ∷ record { asked = Sheet edition (0x80000000 ∷ 65535 ∷ []); answer = Words (top ++ full) }
    ∷ record { asked = Sheet edition (0x80000000 ∷ 65536 ∷ []); answer = RefusalOf 20 0 }
    ∷ record { asked = Sheet first_edition (0x80000005 ∷ 7 ∷ 9 ∷ []); answer = Words (first-top ++ four-numbers) }
    ∷ record { asked = Sheet first_edition (0x80000000 ∷ 8191 ∷ []); answer = Words (first-top ++ first-full) }
    ∷ record { asked = Sheet first_edition (0x80000000 ∷ 8192 ∷ []); answer = RefusalOf 20 0 }
    ∷ record { asked = Judge (message 0x12 0x29 1 2 0 2 4); answer = Accepted }
    ∷ record { asked = Judge (take 15 (message 0x12 0x29 1 2 0 2 4)); answer = Refused-at 1 0 None }
    ∷ record { asked = Judge (message 0x22 0x29 1 2 0 2 4); answer = Refused-at 4 0 (Some 0) }
    ∷ record { asked = Judge (message 0x13 0x29 1 2 0 2 4); answer = Refused-at 5 3 (Some 0) }
    ∷ record { asked = Judge (message 0x12 0x28 1 2 0 2 4); answer = Refused-at 6 0x2028 (Some 2) }
    ∷ record { asked = Judge (message 0x12 0x29 0xFC 2 0 2 4); answer = Refused-at 23 0 (Some 3) }
    ∷ record { asked = Judge (message 0x12 0x29 1 4 0 2 4); answer = Refused-at 7 4 (Some 8) }
    ∷ record { asked = Judge (message 0x12 0x29 1 2 1 2 4); answer = Refused-at 8 1 (Some 9) }
    ∷ record { asked = Judge (message 0x12 0x29 1 2 0 3 4); answer = Refused-at 9 3 (Some 10) }
    ∷ record { asked = Judge (message 0x12 0x29 1 2 0 1 4); answer = Refused-at 10 0 (Some 10) }
    ∷ record { asked = Judge (message 0x12 0x29 1 2 0 2 5); answer = Refused-at 11 20 (Some 15) }
    ∷ record { asked = Judge (message 0x12 0x29 1 2 0 2 6); answer = Refused-at 1 0 (Some 15) }
    ∷ []
