-- Two lists walked side by side, by steps from the oldest number, in the terms of Merging. Assumes nothing.
use Rattle.std.specs.Prelude.{ℕ, ◌+◌, ◌^◌, ◌<◌, ◌≤◌, ◌≡◌, Bool, true, false, cond, List, [], ◌∷◌, ◌++◌, ◌⊎◌, Result, Ok, Err, ltb, max, length, drop, get_or, Option, MatchOption}
use Rattle.std.proofs.Math.Option.{none, some}
use Rattle.ring.specs.Ring.{distance, half}
use Rattle.refusal.specs.declared.Refusal.{Refusal}
use Rattle.loss_list.specs.Expand.{Item, items, expansion, expanded}
use Rattle.loss_list.specs.Walk.{IsSound}
use Rattle.wire.specs.Storage.{Storage, flat}
use Rattle.loss_list.specs.Compress.{compressed, words}
use Rattle.merging.specs.Merging.{outside}
use Rattle.merging.specs.Theorems.{Words}
use Rattle.merging.specs.Steps.{picks, either}
use Rattle.spans.specs.Spans.{ItemAt, items_from, InTurn}
use Rattle.spans.specs.declared.Span.{Span}
use Rattle.merge.specs.declared.items.Items.{Items}
use Rattle.merge.specs.declared.find.Side.{Side}
use Rattle.merge.specs.declared.find.Piece.{Piece}
use Rattle.merge.specs.declared.find.Found.{Found}
use Rattle.merge.specs.declared.walk.Walk.{Walk}
use Rattle.merge.specs.declared.walk.Run.{Run}
use Rattle.merge.specs.declared.write.Totals.{Totals}

-- every number of every item stands in the window
abbrev pub Fits : ℕ → List Item → Type 0
Fits o [] = Unit {0}
Fits o (i ∷ is) = (i.run.first < 2 ^ 31) × (distance 31 i.run.first o + i.run.steps < half 31) × Fits o is

-- what a first look at a list finds: the first item with a number outside the window, which is refused, or whether the items stand in turn
unfoldable pub Sees : ℕ → List ℕ → Result Bool Refusal → Type 0
Sees o ws (Err r) = outside o ws ≡ some r
Sees o ws (Ok ordered) = (outside o ws ≡ none) × Fits o (items_from ws 0) × (ordered ≡ true → InTurn o 0 (items_from ws 0))

-- a list from its first place on
abbrev pub at_first : Bool → Side
at_first ordered = record { ordered = ordered; place = 0 }

-- the items from the side's place on are sound, stand in the window, and in turn where it says so; and have each number that the list has, from `at` on
pub record Stands (o : ℕ) (ws : List ℕ) (at : ℕ) (s : Side) : Type 0 where
  pub sound : IsSound (items s.place (drop s.place ws))
  pub fits : Fits o (items_from ws s.place)
  pub in-turn : s.ordered ≡ true → InTurn o 0 (items_from ws s.place)
  pub same : (d : ℕ) → at ≤ d → d < half 31 → picks o (expansion (items_from ws s.place)) d ≡ picks o (expanded ws) d

-- a call gave the item at the place, with its place, and leaves those after it, or it gave `None` where the list ends
abbrev pub GivesItem : {C : Type 0} → (List C → List ℕ) → Items C → Option (ℕ × Span) → Items C → Type 0
GivesItem words s r t = (t.cells.now ≡ s.cells.now) × (t.oldest ≡ s.oldest) × MatchOption r (length (words s.cells.now) ≤ s.place)
    (λ x. (x.0 ≡ s.place) × ItemAt s.oldest (words s.cells.now) s.place x.1 × (t.place ≡ s.place + x.1.words))

-- where an item begins from `at` on, past the ring if it ends before
unfoldable pub begins_at : ℕ → ℕ → ℕ → ℕ
begins_at at from to = cond (ltb to at) (2 ^ 31) (max from at)

-- p, or that part of an item, where it begins earlier
unfoldable pub near_with : Piece → ℕ → ℕ → ℕ → Piece
near_with p at from to = cond (ltb (begins_at at from to) p.from) (record { from = begins_at at from to; to = to }) p

-- g picks every number from one to another
abbrev pub Covered : (ℕ → Bool) → ℕ → ℕ → Type 0
Covered g from to = (d : ℕ) → from ≤ d → d ≤ to → g d ≡ true

-- p is the next piece of the numbers that g picks from `at` on: it picks none before p, and all of p, if p begins in the ring
pub record Next (g : ℕ → Bool) (at : ℕ) (p : Piece) : Type 0 where
  pub before : (d : ℕ) → at ≤ d → d < p.from → d < half 31 → g d ≡ false
  pub there : p.from < 2 ^ 31 → (at ≤ p.from) × (p.from ≤ p.to) × (p.to < half 31) × Covered g p.from p.to
  pub ends : p.from ≤ 2 ^ 31

-- the next piece of a list that stands in order or not, and where the walk stands after it
pub record Finds (o : ℕ) (ws : List ℕ) (ordered : Bool) (at : ℕ) (f : Found) : Type 0 where
  pub next : Next (picks o (expanded ws)) at f.piece
  pub stands : Stands o ws (f.piece.to + 1) (record { ordered = ordered; place = f.place })

-- the list is sound, and every item in the window
pub record Whole (o : ℕ) (ws : List ℕ) : Type 0 where
  pub sound : IsSound (items 0 ws)
  pub fits : Fits o (items_from ws 0)

-- the places from `low` up to `high` are the only ones that are newly marked
pub record Sets (low high : ℕ) (before seen : List Bool) : Type 0 where
  pub only : (k : ℕ) → get_or seen k false ≡ true → (get_or before k false ≡ true) ⊎ ((low ≤ k) × (k < high))

-- the first n places are marked
pub record Leads (seen : List Bool) (n : ℕ) : Type 0 where
  pub within : n ≤ length seen
  pub marked : (k : ℕ) → k < n → get_or seen k false ≡ true

-- the places that are newly marked stand for numbers of the list, in the window
pub record Marks (o : ℕ) (ws : List ℕ) (at : ℕ) (before seen : List Bool) : Type 0 where
  pub only : (k : ℕ) → get_or seen k false ≡ true → (get_or before k false ≡ true) ⊎ ((picks o (expanded ws) (at + k) ≡ true) × (at + k < half 31))

-- where the nearer of two pieces begins
unfoldable pub nearest : Piece → Piece → ℕ
nearest p q = cond (ltb q.from p.from) q.from p.from

-- the next piece of each of two lists that stand in order or not, from `at` on, and where the nearer begins
pub record Walking (o : ℕ) (ws vs : List ℕ) (left right : Bool) (at : ℕ) (w : Walk) : Type 0 where
  pub whole-first : Whole o ws
  pub whole-second : Whole o vs
  pub first : Finds o ws left at w.first
  pub second : Finds o vs right at w.second
  pub nearer : w.from ≡ nearest w.first.piece w.second.piece

-- .. at some step
pub record Stood (o : ℕ) (ws vs : List ℕ) (left right : Bool) (w : Walk) : Type 0 where
  pub at : ℕ
  pub walking : Walking o ws vs left right at w

-- r is past the end and past the piece that ends at `to`, and g picks all from there up to r
pub record Extends (g : ℕ → Bool) (end to r : ℕ) : Type 0 where
  pub on : end ≤ r
  pub past : to < r
  pub inside : r ≤ half 31
  pub more : (d : ℕ) → end ≤ d → to < d → d < r → g d ≡ true

-- g picks every number from one to another, which lies in the window and not before it
pub record Reaches (g : ℕ → Bool) (from to : ℕ) : Type 0 where
  pub on : from ≤ to
  pub inside : to < half 31
  pub covered : Covered g from to

-- the run that begins with the walk's nearer piece, and the walk after it, which begins farther than one step on
pub record RunsOn (o : ℕ) (ws vs : List ℕ) (left right : Bool) (w : Walk) (r : Run) : Type 0 where
  pub begins : r.from ≡ w.from
  pub reaches : Reaches (either o ws vs) r.from r.to
  pub next : Walking o ws vs left right (r.to + 1) r.next
  pub apart : r.to + 1 < r.next.from

-- what is known of two lists once they were looked at, and whether each stands in order
pub record Ready (o : ℕ) (ws vs : List ℕ) (left right : Bool) : Type 0 where
  pub oldest : o < 2 ^ 31
  pub first-words : Words ws
  pub second-words : Words vs
  pub first-inside : outside o ws ≡ none
  pub second-inside : outside o vs ≡ none
  pub whole-first : Whole o ws
  pub whole-second : Whole o vs
  pub first : Stands o ws 0 (at_first left)
  pub second : Stands o vs 0 (at_first right)

-- left is what is held with a word stored at a place, if there is any room
pub record Puts {A : Type 0} (S : Storage A) (held : List A) (out v : ℕ) (left : List A) : Type 0 where
  pub long : length left ≡ length held
  pub stores : 0 < length held → left ≡ S.store held out v

-- what is written stands in front, and the rest is as it was
abbrev pub Fills : {A : Type 0} → List A → List A → List A → Type 0
Fills written held left = left ≡ written ++ drop (length written) held

-- ns are counted, and written where they fit
pub record Writes {A : Type 0} (S : Storage A) (ns : List ℕ) (held : List A) (t : Totals) (left : List A) : Type 0 where
  pub numbers : t.numbers ≡ length ns
  pub words : t.words ≡ words ns
  pub fills : length (flat S (compressed ns)) ≤ length held → Fills (flat S (compressed ns)) held left
