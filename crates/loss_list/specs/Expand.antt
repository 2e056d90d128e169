-- Expanding a list of words: RULES 3.9 to 3.14. Assumes nothing.
use Rattle.std.specs.Prelude.{ℕ, ◌+◌, ◌-◌, ◌^◌, ◌≡◌, true, false, cond, List, [], ◌∷◌, ◌++◌, ltb, length, drop, Result, Ok, Err}
use Rattle.std.proofs.Math.Option.{Option, none, some}
use Rattle.ring.specs.Ring.{distance}
use Rattle.wire.specs.Lent.{within}
use Rattle.refusal.specs.declared.Refusal.{Refusal}
use Rattle.refusal.specs.declared.Refusal.TheVariants.{TooLong, OpenRange, FlaggedEnd, BackwardRange, TooManyNumbers}
use Rattle.loss_list.specs.Run.{Run, limit, flagged, precedes, numbers_in}

-- an item stands at the place of its first word and holds a run
pub record Item : Type 0 where
  pub place : ℕ
  pub run : Run

pub data Parsed : Type 0 where
  Sound : List Item → Parsed
  Faulty : Refusal → Parsed

-- the items of a list; one with a fault has none
unfoldable pub items_of : Parsed → List Item
items_of (Sound is) = is
items_of (Faulty r) = []

unfoldable pub keep : Item → Parsed → Parsed
keep i (Sound is) = Sound (i ∷ is)
keep i (Faulty r) = Faulty r

abbrev pub lone : ℕ → ℕ → Item
lone p n = record { place = p; run = record { first = n; steps = 0 } }

abbrev pub ranged : ℕ → ℕ → ℕ → Item
ranged p start end = record { place = p; run = record { first = start; steps = distance 31 end start } }

unfoldable mutual
  -- RULES 3.10: an unflagged word is itself; a flagged word opens a range
  pub items : ℕ → List ℕ → Parsed
  items p [] = Sound []
  items p (w ∷ ws) = elim (flagged w) [ true ↦ range_from p (w - 2 ^ 31) ws | false ↦ keep (lone p w) (items (p + 1) ws) ]

  -- RULES 3.11: the next word must exist, be unflagged, and the start must be Less than it
  pub range_from : ℕ → ℕ → List ℕ → Parsed
  range_from p start [] = Faulty (OpenRange p)
  range_from p start (end ∷ ws) =
      elim (flagged end) [
        | true ↦ Faulty (FlaggedEnd (p + 1))
        | false ↦ elim (precedes start end) [ true ↦ keep (ranged p start end) (items (p + 2) ws) | false ↦ Faulty (BackwardRange (p + 1)) ]
      ]

-- RULES 3.12: the numbers of the items, in order
unfoldable pub expansion : List Item → List ℕ
expansion [] = []
expansion (i ∷ is) = numbers_in i.run ++ expansion is

-- how many they are
unfoldable pub total : List Item → ℕ
total [] = 0
total (i ∷ is) = i.run.steps + 1 + total is

-- RULES 3.13: the place of the item whose end takes the total past the limit, which is `most`, where the items before hold
-- `before` numbers
unfoldable pub past_limit : ℕ → ℕ → List Item → Option ℕ
past_limit most before [] = none
past_limit most before (i ∷ is) =
    let so_far : ℕ = before + (i.run.steps + 1) in
    elim (ltb most so_far) [ true ↦ some i.place | false ↦ past_limit most so_far is ]

-- 20 of a list with no fault of form, or how many numbers it stands for
unfoldable pub counted : Option ℕ → ℕ → Result ℕ Refusal
counted (some p) n = Err (TooManyNumbers p)
counted none n = Ok n

-- RULES 3.9: the lowest place among 17 to 19, before 20; `most` is the limit
unfoldable pub formed : ℕ → Parsed → Result ℕ Refusal
formed most (Sound is) = counted (past_limit most 0 is) (total is)
formed most (Faulty r) = Err r

-- RULES 3.9: the list's own refusal, whatever the room; 14 comes first, and `most` is the limit
unfoldable pub judgement : ℕ → List ℕ → Result ℕ Refusal
judgement most ws = cond (ltb most (length ws)) (Err (TooLong most)) (formed most (items 0 ws))

-- RULES 3.9: 21 comes last; the limit is that of Run
abbrev pub expanding : List ℕ → ℕ → Result ℕ Refusal
expanding ws room = within room (judgement limit ws)

unfoldable pub numbers_of : Parsed → List ℕ
numbers_of (Sound is) = expansion is
numbers_of (Faulty r) = []

-- the numbers that a list of words stands for
unfoldable pub expanded : List ℕ → List ℕ
expanded ws = numbers_of (items 0 ws)

-- RULES 3.14: what a buffer then holds, the numbers and the rest of what it held, or all that it held
unfoldable pub after_expanding : Result ℕ Refusal → List ℕ → List ℕ → List ℕ
after_expanding (Ok n) ws held = expanded ws ++ drop n held
after_expanding (Err r) ws held = held

-- expanding ws into a buffer that holds `held` answers r and leaves `left` in it
pub record Expands (ws held : List ℕ) (r : Result ℕ Refusal) (left : List ℕ) : Type 0 where
  pub answer : r ≡ expanding ws (length held)
  pub leaves : left ≡ after_expanding r ws held
