-- The items of a list by their steps from an oldest number, in the terms of Expand. Assumes nothing.
use Rattle.std.specs.Prelude.{ℕ, ◌+◌, ◌-◌, ◌^◌, ◌<◌, ◌≤◌, ◌≡◌, cond, List, [], ◌∷◌, ◌++◌, length, drop, get_or}
use Rattle.ring.specs.Ring.{distance, half}
use Rattle.wire.specs.Bytes.{in_words}
use Rattle.loss_list.specs.Run.{flagged}
use Rattle.loss_list.specs.Expand.{Item, items, items_of}
use Rattle.loss_list.specs.Walk.{IsSound}
use Rattle.spans.specs.declared.Span.{Span}

-- a list that is lent in two parts: words, and then words that lie as bytes
abbrev pub lent : List ℕ → List ℕ → List ℕ
lent ws bs = ws ++ in_words bs

-- the item that begins with w, where e follows
unfoldable pub span_of : ℕ → ℕ → ℕ → Span
span_of o w e =
    cond (flagged w)
    (record { from = distance 31 (w - 2 ^ 31) o; to = distance 31 (w - 2 ^ 31) o + distance 31 e (w - 2 ^ 31); words = 2 })
    (record { from = distance 31 w o; to = distance 31 w o; words = 1 })

-- s is the item at place i of ws, of which the word there is one of 32 bits, as those of a slice are
pub record SpanAt (o : ℕ) (ws : List ℕ) (i : ℕ) (s : Span) : Type 0 where
  pub same : s ≡ span_of o (get_or ws i 0) (get_or ws (i + 1) 0)
  pub word : get_or ws i 0 < 2 ^ 32

-- the items from a place on
abbrev pub items_from : List ℕ → ℕ → List Item
items_from ws i = items_of (items i (drop i ws))

-- s is the item at place i of ws by its steps from o, and those after it are sound
pub record ItemAt (o : ℕ) (ws : List ℕ) (i : ℕ) (s : Span) : Type 0 where
  pub item : Item
  pub here : items_from ws i ≡ item ∷ items_from ws (i + s.words)
  pub sound : IsSound (items (i + s.words) (drop (i + s.words) ws))
  pub more : 0 < s.words
  pub within : s.words ≤ length ws - i
  pub from : s.from ≡ distance 31 item.run.first o
  pub to : s.to ≡ s.from + item.run.steps
  pub place : item.place ≡ i
  pub first-in : item.run.first < 2 ^ 31
  pub steps-in : item.run.steps < half 31

-- each item begins no fewer steps after the oldest than the one before it, and the first no fewer than so many
abbrev pub InTurn : ℕ → ℕ → List Item → Type 0
InTurn o least [] = Unit {0}
InTurn o least (i ∷ is) = (least ≤ distance 31 i.run.first o) × InTurn o (distance 31 i.run.first o) is
