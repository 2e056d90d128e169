-- What holds of the answers, and so of the functions that equal them: an accepted list names no place exactly of the numbers that its expansion lacks, and a place
-- exactly where the item there covers the number and no item before it does. Each statement is proved in proofs/ under its own name in small letters.
-- Assumes nothing.
use Rattle.std.specs.Prelude.{ℕ, suc, ◌-◌, ◌%◌, ◌^◌, ◌<◌, ◌≤◌, ◌≡◌, true, false, List, [], ◌∷◌, ◌++◌, ◌↔◌, ◌⊎◌, length, get_or, Some, None, Ok, Err}
use Rattle.ring.specs.Ring.{distance}
use Rattle.refusal.specs.declared.Refusal.TheVariants.{NotEnoughData}
use Rattle.wire.specs.Bytes.{in_words}
use Rattle.loss_list.specs.Run.{limit}
use Rattle.loss_list.specs.Expand.{Item, items, items_of, judgement, expanded}
use Rattle.loss_list.specs.Has.{has, covers}
use Rattle.why_lost.specs.WhyLost.{why_lost, why_lost_bytes}

-- the list is accepted, whatever the room, and the number is a sequence number
pub record Answerable (ws : List ℕ) (n : ℕ) : Type 0 where
  pub count : ℕ
  pub accepted : judgement limit ws ≡ Ok count
  pub number : n < 2 ^ 31

abbrev pub NoneCovers : List Item → ℕ → Type 0
NoneCovers [] n = Unit {0}
NoneCovers (i ∷ is) n = (covers i n ≡ false) × NoneCovers is n

-- one of the items stands at p and covers n, and none of those before it does
pub record FirstAt (is : List Item) (n p : ℕ) : Type 0 where
  pub before : List Item
  pub item : Item
  pub after : List Item
  pub all : is ≡ before ++ item ∷ after
  pub place : item.place ≡ p
  pub covering : covers item n ≡ true
  pub first : NoneCovers before n

abbrev pub NotLostExactly : Type 0
NotLostExactly = (ws : List ℕ) (n : ℕ) → (why_lost ws n ≡ Ok None) ↔ (Answerable ws n × (has (expanded ws) n ≡ false))

abbrev pub LostExactly : Type 0
LostExactly = (ws : List ℕ) (n p : ℕ) → (why_lost ws n ≡ Ok (Some p)) ↔ (Answerable ws n × FirstAt (items_of (items 0 ws)) n p)

-- So some place is given exactly of the numbers that the expansion has.
abbrev pub LostHas : Type 0
LostHas = (ws : List ℕ) (n : ℕ) → ((p : ℕ) × (why_lost ws n ≡ Ok (Some p))) ↔ (Answerable ws n × (has (expanded ws) n ≡ true))

-- The place is one of the list's words ..
abbrev pub LostPlace : Type 0
LostPlace = (ws : List ℕ) (n p : ℕ) → why_lost ws n ≡ Ok (Some p) → p < length ws

-- .. and that word says so: it is the number, or the start of a range in which the number stands.
abbrev pub SaysSo : List ℕ → ℕ → ℕ → Type 0
SaysSo ws p n =
    (get_or ws p 0 ≡ n)
    ⊎ ((2 ^ 31 ≤ get_or ws p 0) × (distance 31 n (get_or ws p 0 - 2 ^ 31) ≤ distance 31 (get_or ws (suc p) 0) (get_or ws p 0 - 2 ^ 31)))

-- words have 32 bits, as those of a slice do
abbrev pub LostWord : Type 0
LostWord = (ws : List ℕ) → ((i : ℕ) → get_or ws i 0 < 2 ^ 32) → (n p : ℕ) → why_lost ws n ≡ Ok (Some p) → SaysSo ws p n

-- RULES 3.24: bytes are answered as their words are, once they are whole words.
abbrev pub LostInBytes : Type 0
LostInBytes = (bs : List ℕ) (n : ℕ) →
    (length bs % 4 ≡ 0 → why_lost_bytes bs n ≡ why_lost (in_words bs) n) × ((length bs % 4 ≡ 0 → ⊥) → why_lost_bytes bs n ≡ Err NotEnoughData)
