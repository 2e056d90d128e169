-- Two lists merged: RULES 3.26 to 3.31. Assumes nothing.
use Rattle.wire.specs.Lent.{within}
use Rattle.std.specs.Prelude.{ℕ, ◌*◌, ◌/◌, ◌≡◌, Bool, true, false, cond, List, [], ◌∷◌, ◌++◌, ltb, eqb, length, drop, Result, Ok, Err}
use Rattle.std.proofs.Math.Option.{Option, none, some}
use Rattle.ring.specs.Ring.{distance, half}
use Rattle.refusal.specs.declared.Refusal.{Refusal}
use Rattle.refusal.specs.declared.Refusal.TheVariants.{NotSequence, TooManyNumbers, OutsideWindow}
use Rattle.wire.specs.Bytes.{in_bytes, in_words}
use Rattle.loss_list.specs.Run.{limit, flagged, numbers_in}
use Rattle.loss_list.specs.Compress.{words, compressed, ordered, after_compressing}
use Rattle.loss_list.specs.Expand.{Item, items, items_of, judgement, expanded}
use Rattle.loss_list.specs.InBytes.{judgement_bytes}

-- RULES 3.26: n stands 0 to 2^30 - 1 steps after the oldest number o
abbrev pub in_window : ℕ → ℕ → Bool
in_window o n = ltb (distance 31 n o) (half 31)

unfoldable pub all_in_window : ℕ → List ℕ → Bool
all_in_window o [] = true
all_in_window o (n ∷ ns) = cond (in_window o n) (all_in_window o ns) false

-- RULES 3.28: the place of the first item with a number outside the window
unfoldable pub first_outside : ℕ → List Item → Option ℕ
first_outside o [] = none
first_outside o (i ∷ is) = cond (all_in_window o (numbers_in i.run)) (first_outside o is) (some i.place)

-- n put in its place among numbers in order from the oldest, unless it is there
unfoldable pub put : ℕ → ℕ → List ℕ → List ℕ
put o n [] = n ∷ []
put o n (x ∷ xs) = cond (eqb n x) (x ∷ xs) (cond (ltb (distance 31 n o) (distance 31 x o)) (n ∷ x ∷ xs) (x ∷ put o n xs))

-- RULES 3.29: numbers in order from the oldest, each once
unfoldable pub in_order : ℕ → List ℕ → List ℕ
in_order o [] = []
in_order o (n ∷ ns) = put o n (in_order o ns)

-- the numbers that either list has
unfoldable pub union : ℕ → List ℕ → List ℕ → List ℕ
union o ws vs = in_order o (expanded ws ++ expanded vs)

-- a check that refuses goes before those after it
infixr 20 ◌or_else◌
unfoldable pub ◌or_else◌ : Option Refusal → Option Refusal → Option Refusal
some r or_else later = some r
none or_else later = later

-- 15 carrying 0 for the oldest
unfoldable pub oldest_fault : ℕ → Option Refusal
oldest_fault o = cond (flagged o) (some (NotSequence 0)) none

-- the list's own refusal
unfoldable pub own_fault : Result ℕ Refusal → Option Refusal
own_fault (Err r) = some r
own_fault (Ok n) = none

-- 29 carrying the place
unfoldable pub placed : Option ℕ → Option Refusal
placed (some p) = some (OutsideWindow p)
placed none = none

unfoldable pub outside : ℕ → List ℕ → Option Refusal
outside o ws = placed (first_outside o (items_of (items 0 ws)))

-- 20 carrying 0
unfoldable pub past_limit : List ℕ → Option Refusal
past_limit ns = cond (ltb limit (length ns)) (some (TooManyNumbers 0)) none

-- RULES 3.27: why the lists are not merged, whatever the room, where `first` and `second` are what they are judged to be on their own
unfoldable pub barred : ℕ → Result ℕ Refusal → Result ℕ Refusal → List ℕ → List ℕ → Option Refusal
barred o first second ws vs =
    oldest_fault o or_else own_fault first or_else own_fault second or_else outside o ws or_else outside o vs or_else past_limit (union o ws vs)

-- RULES 3.27: 21 comes last, carrying the words that the compressor writes for those numbers
abbrev pub merging_of : Option Refusal → List ℕ → ℕ → Result ℕ Refusal
merging_of why ns room = within room (ordered why (words ns))

abbrev pub merging : ℕ → List ℕ → List ℕ → ℕ → Result ℕ Refusal
merging o ws vs room = merging_of (barred o (judgement limit ws) (judgement limit vs) ws vs) (union o ws vs) room

-- RULES 3.30: what is written is what the compressor writes for those numbers
pub record Merges (o : ℕ) (ws vs held : List ℕ) (r : Result ℕ Refusal) (left : List ℕ) : Type 0 where
  pub answer : r ≡ merging o ws vs (length held)
  pub leaves : left ≡ after_compressing r (union o ws vs) held

-- RULES 3.31: the words lie as bytes
abbrev pub merging_bytes : ℕ → List ℕ → List ℕ → ℕ → Result ℕ Refusal
merging_bytes o bs cs room =
    merging_of (barred o (judgement_bytes bs) (judgement_bytes cs) (in_words bs) (in_words cs)) (union o (in_words bs) (in_words cs)) (room / 4)

unfoldable pub after_merging_bytes : Result ℕ Refusal → List ℕ → List ℕ → List ℕ
after_merging_bytes (Ok n) ns held = in_bytes (compressed ns) ++ drop (4 * n) held
after_merging_bytes (Err r) ns held = held

pub record MergesBytes (o : ℕ) (bs cs held : List ℕ) (r : Result ℕ Refusal) (left : List ℕ) : Type 0 where
  pub answer : r ≡ merging_bytes o bs cs (length held)
  pub leaves : left ≡ after_merging_bytes r (union o (in_words bs) (in_words cs)) held
