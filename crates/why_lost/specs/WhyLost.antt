-- Why a number is lost: RULES 3.22 to 3.24. Assumes nothing.
use Rattle.refusal.specs.declared.Refusal.{Refusal}
use Rattle.std.specs.Prelude.{ℕ, cond, List, [], ◌∷◌, Option, Some, None, Result, Ok, Err}
use Rattle.refusal.specs.declared.Refusal.TheVariants.{NotSequence}
use Rattle.wire.specs.Bytes.{in_words}
use Rattle.loss_list.specs.Run.{limit, flagged}
use Rattle.loss_list.specs.Expand.{Item, Parsed, items, items_of, judgement}
use Rattle.loss_list.specs.Has.{covers}
use Rattle.loss_list.specs.InBytes.{judgement_bytes}

-- RULES 3.23: the place of the first item that covers n
unfoldable pub first_covering : List Item → ℕ → Option ℕ
first_covering [] n = None
first_covering (i ∷ is) n = cond (covers i n) (Some i.place) (first_covering is n)

abbrev pub searched : Parsed → ℕ → Option ℕ
searched ps n = first_covering (items_of ps) n

-- RULES 3.22: the list's own refusal, then 15 carrying 0
unfoldable pub admitted : Result ℕ Refusal → ℕ → Result (Unit {0}) Refusal
admitted (Err r) n = Err r
admitted (Ok count) n = cond (flagged n) (Err (NotSequence 0)) (Ok tt)

unfoldable pub answered : Result (Unit {0}) Refusal → Option ℕ → Result (Option ℕ) Refusal
answered (Err r) found = Err r
answered (Ok u) found = Ok found

abbrev pub asked : Result ℕ Refusal → Parsed → ℕ → Result (Option ℕ) Refusal
asked judged ps n = answered (admitted judged n) (searched ps n)

abbrev pub why_lost : List ℕ → ℕ → Result (Option ℕ) Refusal
why_lost ws n = asked (judgement limit ws) (items 0 ws) n

-- RULES 3.24: the words lie as bytes
abbrev pub why_lost_bytes : List ℕ → ℕ → Result (Option ℕ) Refusal
why_lost_bytes bs n = asked (judgement_bytes bs) (items 0 (in_words bs)) n
