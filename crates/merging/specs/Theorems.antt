-- What may be relied on of two lists that are merged, sentence by sentence: RULES 3.32 to 3.38. Each statement is proved in proofs/ under its own name in small
-- letters. Assumes nothing.
use Rattle.std.specs.Prelude.{ℕ, ◌*◌, ◌%◌, ◌^◌, ◌<◌, ◌≤◌, ◌≡◌, true, false, List, [], ◌∷◌, ◌++◌, ◌↔◌, ◌⊎◌, length, get_or, Ok, Err}
use Rattle.ring.specs.Ring.{distance, half}
use Rattle.refusal.specs.declared.Refusal.{Refusal}
use Rattle.refusal.specs.declared.Refusal.TheVariants.{OutsideWindow, NotEnoughData}
use Rattle.wire.specs.Bytes.{in_words}
use Rattle.loss_list.specs.Run.{limit, numbers_in}
use Rattle.loss_list.specs.Compress.{words, compressed, Compresses}
use Rattle.loss_list.specs.Expand.{Item, items, items_of, judgement, expanding, expanded}
use Rattle.loss_list.specs.InBytes.{judgement_bytes}
use Rattle.loss_list.specs.Has.{has}
use Rattle.merging.specs.Merging.{all_in_window, in_order, union, merging, Merges, merging_bytes}

-- words of 32 bits, as those of a slice are
abbrev pub Words : List ℕ → Type 0
Words ws = (i : ℕ) → get_or ws i 0 < 2 ^ 32

-- the words of the list that two are merged into
abbrev pub merged : ℕ → List ℕ → List ℕ → List ℕ
merged o ws vs = compressed (union o ws vs)

-- every number stands in the window, and each more steps after the oldest than the one before it
pub data Rising (o : ℕ) : List ℕ → Type 0 where
  none : Rising o []
  one : {x : ℕ} → x < 2 ^ 31 → distance 31 x o < half 31 → Rising o (x ∷ [])
  more : {x y : ℕ} {xs : List ℕ} → x < 2 ^ 31 → distance 31 x o < distance 31 y o → Rising o (y ∷ xs) → Rising o (x ∷ y ∷ xs)

abbrev pub InWindow : ℕ → List Item → Type 0
InWindow o [] = Unit {0}
InWindow o (i ∷ is) = (all_in_window o (numbers_in i.run) ≡ true) × InWindow o is

-- an item with a number outside the window stands at p, and of those before it every number is inside
pub record OutsideAt (o : ℕ) (is : List Item) (p : ℕ) : Type 0 where
  pub before : List Item
  pub item : Item
  pub after : List Item
  pub all : is ≡ before ++ item ∷ after
  pub place : item.place ≡ p
  pub outside : all_in_window o (numbers_in item.run) ≡ false
  pub first : InWindow o before

-- the oldest is a sequence number, and each list is accepted on its own, whatever the room
pub record Judged (o : ℕ) (ws vs : List ℕ) : Type 0 where
  pub oldest : o < 2 ^ 31
  pub first_count : ℕ
  pub first : judgement limit ws ≡ Ok first_count
  pub second-count : ℕ
  pub second : judgement limit vs ≡ Ok second-count

-- what is asked of the oldest, the lists and the room
pub record Mergeable (o : ℕ) (ws vs : List ℕ) (room : ℕ) : Type 0 where
  pub judged : Judged o ws vs
  pub first-inside : InWindow o (items_of (items 0 ws))
  pub second-inside : InWindow o (items_of (items 0 vs))
  pub within-limit : length (union o ws vs) ≤ limit
  pub fits : words (union o ws vs) ≤ room

-- RULES 3.32: lists are merged exactly where that is so, and the count is the words of those numbers.
abbrev pub AcceptedExactly : Type 0
AcceptedExactly = (o : ℕ) (ws vs : List ℕ) (room n : ℕ) → (merging o ws vs room ≡ Ok n) ↔ (Mergeable o ws vs room × (n ≡ words (union o ws vs)))

-- what holds of an accepted call on words of 32 bits
module _ (o : ℕ) (ws vs : List ℕ) (room n : ℕ) where
  pub record Accepted : Type 0 where
    pub first-words : Words ws
    pub second-words : Words vs
    pub written : merging o ws vs room ≡ Ok n

-- RULES 3.33: the expansion of the result has a number exactly when one of the two has it ..
abbrev pub MergedHas : Type 0
MergedHas = (o : ℕ) (ws vs : List ℕ) (room n : ℕ) → Accepted o ws vs room n → (m : ℕ) →
    (has (expanded (merged o ws vs)) m ≡ true) ↔ ((has (expanded ws) m ≡ true) ⊎ (has (expanded vs) m ≡ true))

-- .. and is strictly increasing from the oldest.
abbrev pub MergedRises : Type 0
MergedRises = (o : ℕ) (ws vs : List ℕ) (room n : ℕ) → Accepted o ws vs room n → Rising o (expanded (merged o ws vs))

-- RULES 3.34: it is what the compressor gives for those numbers, into the same buffer ..
abbrev pub MergedIsCompressed : Type 0
MergedIsCompressed = (o : ℕ) (ws vs held : List ℕ) (n : ℕ) (left : List ℕ) → Words ws → Words vs →
    Merges o ws vs held (Ok n) left → Compresses (expanded (merged o ws vs)) held (Ok n) left

-- .. and so no list of the same numbers in that order is shorter.
abbrev pub MergedLeast : Type 0
MergedLeast = (o : ℕ) (ws vs : List ℕ) (room n : ℕ) → Accepted o ws vs room n → (us : List ℕ) (room' m : ℕ) →
    expanding us room' ≡ Ok m → expanded us ≡ expanded (merged o ws vs) → n ≤ length us

-- RULES 3.35: exchanging the two lists changes nothing of an accepted call, so that both orders are accepted or neither ..
abbrev pub Exchanged : Type 0
Exchanged = (o : ℕ) (ws vs held : List ℕ) (n : ℕ) (left : List ℕ) → Words ws → Words vs →
    Merges o ws vs held (Ok n) left → Merges o vs ws held (Ok n) left

-- .. and a refusal is another one only where both lists are refused on their own, each by its own; or both have an item outside the window, and then in the place alone.
abbrev pub BothRefused : ℕ → List ℕ → List ℕ → ℕ → Type 0
BothRefused o ws vs room =
    (r : Refusal) × (q : Refusal) × (judgement limit ws ≡ Err r) × (judgement limit vs ≡ Err q) × (merging o ws vs room ≡ Err r) × (merging o vs ws room ≡ Err q)

abbrev pub BothOutside : ℕ → List ℕ → List ℕ → ℕ → Type 0
BothOutside o ws vs room = (p : ℕ) × (q : ℕ) × (merging o ws vs room ≡ Err (OutsideWindow p)) × (merging o vs ws room ≡ Err (OutsideWindow q))

abbrev pub ExchangedRefusal : Type 0
ExchangedRefusal = (o : ℕ) (ws vs : List ℕ) (room : ℕ) → Words ws → Words vs →
    (merging o ws vs room ≡ merging o vs ws room) ⊎ (BothRefused o ws vs room ⊎ BothOutside o ws vs room)

-- RULES 3.36: three lists in either grouping give the same words, wherever no step is refused.
abbrev pub Grouped : Type 0
Grouped = (o : ℕ) (ws vs us : List ℕ) (room₁ room₂ room₃ room₄ a b c d : ℕ) → Words ws → Words vs → Words us →
    merging o ws vs room₁ ≡ Ok a → merging o (merged o ws vs) us room₂ ≡ Ok b →
    merging o vs us room₃ ≡ Ok c → merging o ws (merged o vs us) room₄ ≡ Ok d →
    merged o (merged o ws vs) us ≡ merged o ws (merged o vs us)

-- RULES 3.37: a list merged with itself or with an empty one gives its numbers in order ..
abbrev pub WithItself : Type 0
WithItself = (o : ℕ) (ws : List ℕ) (room n : ℕ) → Accepted o ws ws room n → merged o ws ws ≡ compressed (in_order o (expanded ws))

abbrev pub WithNone : Type 0
WithNone = (o : ℕ) (ws : List ℕ) → (merged o ws [] ≡ compressed (in_order o (expanded ws))) × (merged o [] ws ≡ compressed (in_order o (expanded ws)))

-- .. and a list that the compressor wrote, of numbers in order from the oldest, is given back word for word.
abbrev pub AsItWas : Type 0
AsItWas = (o : ℕ) (xs : List ℕ) → length xs ≤ limit → Rising o xs → merged o (compressed xs) [] ≡ compressed xs

-- RULES 3.38: 29 carries the lowest place of an item outside the window in the first list that has one.
abbrev pub OutsideExactly : Type 0
OutsideExactly = (o : ℕ) (ws vs : List ℕ) (room p : ℕ) → (merging o ws vs room ≡ Err (OutsideWindow p)) ↔
    (Judged o ws vs × (OutsideAt o (items_of (items 0 ws)) p ⊎ (InWindow o (items_of (items 0 ws)) × OutsideAt o (items_of (items 0 vs)) p)))

-- RULES 3.31: bytes are answered as their words are, once each list is whole words; else 1 stands where the list's own refusal does.
abbrev pub MergedInBytes : Type 0
MergedInBytes = (o : ℕ) (bs cs : List ℕ) (room : ℕ) → length bs % 4 ≡ 0 → length cs % 4 ≡ 0 → merging_bytes o bs cs (4 * room) ≡ merging o (in_words bs) (in_words cs) room

abbrev pub OddBytes : Type 0
OddBytes = (o : ℕ) (bs cs : List ℕ) (room : ℕ) → o < 2 ^ 31 →
    ((length bs % 4 ≡ 0 → ⊥) → merging_bytes o bs cs room ≡ Err NotEnoughData)
    × ((m : ℕ) → judgement_bytes bs ≡ Ok m → (length cs % 4 ≡ 0 → ⊥) → merging_bytes o bs cs room ≡ Err NotEnoughData)
