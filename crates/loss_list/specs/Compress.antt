-- Compressing a list of sequence numbers: RULES 3.4 to 3.8. Assumes nothing.
use Rattle.std.specs.Prelude.{ℕ, zero, suc, ◌+◌, ◌^◌, ◌≡◌, cond, List, [], ◌∷◌, ◌++◌, ltb, eqb, length, drop, Result, Ok, Err}
use Rattle.std.proofs.Math.Option.{Option, none, some}
use Rattle.ring.specs.Ring.{after}
use Rattle.wire.specs.Lent.{within}
use Rattle.refusal.specs.declared.Refusal.{Refusal}
use Rattle.refusal.specs.declared.Refusal.TheVariants.{TooLong, NotSequence, NotIncreasing}
use Rattle.loss_list.specs.Run.{Run, limit, flagged, precedes}

-- the first fault from place p on, where the number before it is `before`
unfoldable pub later_fault : ℕ → ℕ → List ℕ → Option Refusal
later_fault p before [] = none
later_fault p before (x ∷ xs) =
    cond (flagged x) (some (NotSequence p)) (cond (precedes before x) (later_fault (p + 1) x xs) (some (NotIncreasing p)))

-- RULES 3.5: the lowest place at fault, a number of 2^31 or more, or one that its predecessor is not Less than
unfoldable pub order_fault : List ℕ → Option Refusal
order_fault [] = none
order_fault (x ∷ xs) = cond (flagged x) (some (NotSequence 0)) (later_fault 1 x xs)

-- x before the runs of what follows it: it joins the first of them where that begins one ring step after x
unfoldable pub joined : ℕ → List Run → List Run
joined x [] = record { first = x; steps = 0 } ∷ []
joined x (r ∷ rs) =
    cond (eqb r.first (after 31 x 1)) (record { first = x; steps = suc r.steps } ∷ rs) (record { first = x; steps = 0 } ∷ r ∷ rs)

-- RULES 3.6: the longest stretches in which each number is one ring step after the one before
unfoldable pub runs : List ℕ → List Run
runs [] = []
runs (x ∷ xs) = joined x (runs xs)

-- RULES 3.7: bit 31 where a run is a range, its last number more than one step after its first; else nothing
unfoldable pub range_flag : ℕ → ℕ
range_flag steps = cond (ltb 1 steps) (2 ^ 31) 0

-- RULES 3.7: a run of one as itself; a longer one as its first number and its last, the first flagged where it is a range
unfoldable pub coded : ℕ → ℕ → List ℕ
coded first zero = first ∷ []
coded first (suc n) = (first + range_flag (suc n)) ∷ after 31 first (suc n) ∷ []

-- the words of a run: one for a lone number, two for a longer run
unfoldable pub cost : ℕ → ℕ
cost zero = 1
cost (suc n) = 2

unfoldable pub coded_runs : List Run → List ℕ
coded_runs [] = []
coded_runs (r ∷ rs) = coded r.first r.steps ++ coded_runs rs

unfoldable pub cost_of_runs : List Run → ℕ
cost_of_runs [] = 0
cost_of_runs (r ∷ rs) = cost r.steps + cost_of_runs rs

-- the words that xs is written as, and how many they are
unfoldable pub compressed : List ℕ → List ℕ
compressed xs = coded_runs (runs xs)

unfoldable pub words : List ℕ → ℕ
words xs = cost_of_runs (runs xs)

-- the lowest place at fault, or how many words are written
unfoldable pub ordered : Option Refusal → ℕ → Result ℕ Refusal
ordered (some r) n = Err r
ordered none n = Ok n

-- RULES 3.4: the list's own refusal, whatever the room; 14 comes first
unfoldable pub judgement : List ℕ → Result ℕ Refusal
judgement xs = cond (ltb limit (length xs)) (Err (TooLong limit)) (ordered (order_fault xs) (words xs))

-- RULES 3.4: 21 comes last
abbrev pub compressing : List ℕ → ℕ → Result ℕ Refusal
compressing xs room = within room (judgement xs)

-- RULES 3.8: what a buffer then holds, the words and the rest of what it held, or all that it held
unfoldable pub after_compressing : Result ℕ Refusal → List ℕ → List ℕ → List ℕ
after_compressing (Ok n) xs held = compressed xs ++ drop n held
after_compressing (Err r) xs held = held

-- compressing xs into a buffer that holds `held` answers r and leaves `left` in it
pub record Compresses (xs held : List ℕ) (r : Result ℕ Refusal) (left : List ℕ) : Type 0 where
  pub answer : r ≡ compressing xs (length held)
  pub leaves : left ≡ after_compressing r xs held
