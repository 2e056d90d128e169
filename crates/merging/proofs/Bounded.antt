-- Every count and every number that a refusal carries fits 32 bits: places of items and words of accepted numbers are at most the limit. Assumes nothing.
use Rattle.std.specs.Prelude.{Result, Ok, Err}
use mathlib.Core.Path.{◌≡◌, sym}
use mathlib.Core.Bool.{Bool, true, false, cond}
use mathlib.Core.List.{List, [], ◌∷◌}
use mathlib.Core.Option.{Option, none, some}
use Prim.Native.Nat.{ℕ, ◌/◌, ◌^◌, ◌<◌, ◌≤◌}
use native.Mathlib.Omega.{arith}
use Rattle.refusal.specs.Refusal.{carried_by}
use Rattle.refusal.specs.declared.Refusal.{Refusal}
use Rattle.wire.specs.Bytes.{in_words}
use Rattle.loss_list.specs.Run.{limit, numbers_in}
use Rattle.loss_list.specs.Compress.{words}
use Rattle.loss_list.specs.Expand.{Item, Parsed, Sound, Faulty, items, items_of}
use Rattle.loss_list.specs.InBytes.{judgement_bytes}
use Rattle.loss_list.proofs.Bounded.{Placed, Parses, parses, judgement-bytes-small}
use Rattle.loss_list.proofs.Expands.{judged-numbers, judged-words}
use Rattle.loss_list.proofs.Limits.{limit_is}
use Rattle.loss_list.proofs.Runs.{words-within}
use Rattle.loss_list.proofs.Shapes.{shape}
use Rattle.merging.specs.Merging.{all_in_window, first_outside, union, barred, merging_bytes}
use Rattle.merging.proofs.Answers.{Answered, barred-by, no_room, done, answered, outside_place, Ends, at-oldest, at_first, at_second, at-outside-first, at-outside-second, at-limit, at-nothing, ends}

-- an item outside the window stands where the items do
outside-placed : (n o : ℕ) (is : List Item) (p : ℕ) → Placed n is → first_outside o is ≡ some p → p ≤ n
unfolding first_outside
outside-placed n o [] p h e = absurd (let z : ◌≡◌ {A = ℕ} 0 1 = cc in omega arith)
outside-placed n o (i ∷ is) p h e = go (outside-placed n o is p h.1) (all_in_window o (numbers_in i.run)) e
  where
    go : (first_outside o is ≡ some p → p ≤ n) → (b : Bool) → cond b (first_outside o is) (some i.place) ≡ some p → p ≤ n
    go later true q = later q
    go later false q =
        let same : i.place ≡ p = cc in
        omega (arith, h.0)

items-placed : (n : ℕ) (ps : Parsed) → Parses n ps → Placed n (items_of ps)
unfolding items_of
items-placed n (Sound is) h = h
items-placed n (Faulty r) h = tt

-- of an accepted list those are places within the limit
outside-limited : (o : ℕ) (bs : List ℕ) {m : ℕ} → Ok m ≡ judgement_bytes bs → {p : ℕ} → outside_place o (in_words bs) ≡ some p → p ≤ limit
outside-limited o bs a e =
    let short = (judged-numbers (in_words bs) (judged-words bs a).1).0 in
    outside-placed limit o (items_of (items 0 (in_words bs))) _ (items-placed limit (items 0 (in_words bs)) (parses limit (shape 0 (in_words bs)) (omega arith))) e

module _ (o : ℕ) (bs cs : List ℕ) (room : ℕ) where
  abbrev ns : List ℕ
  ns = union o (in_words bs) (in_words cs)

  abbrev why : Option Refusal
  why = barred o (judgement_bytes bs) (judgement_bytes cs) (in_words bs) (in_words cs)

  abbrev Ending : Option Refusal → Type 0
  Ending w = Ends o (judgement_bytes bs) (judgement_bytes cs) (in_words bs) (in_words cs) w

  ending : {w : Option Refusal} → why ≡ w → Ending w
  ending e = ends o (judgement_bytes bs) (judgement_bytes cs) (in_words bs) (in_words cs) e

  barred-small : {r : Refusal} → Ending (some r) → carried_by r < 2 ^ 32
  barred-small (at-oldest l) = omega arith
  barred-small (at_first l a) = judgement-bytes-small bs a
  barred-small (at_second l a b) = judgement-bytes-small cs b
  barred-small (at-outside-first d f) = omega (arith, limit_is, outside-limited o bs d.first-is f)
  barred-small (at-outside-second d f g) = omega (arith, limit_is, outside-limited o cs d.second_is g)
  barred-small (at-limit d f g h) = omega arith

  words_small : Ending none → words ns < 2 ^ 32
  words_small (at-nothing d f g h) = omega (arith, limit_is, words-within ns)

  abbrev Small : Result ℕ Refusal → Type 0
  Small (Ok n) = n < 2 ^ 32
  Small (Err r) = carried_by r < 2 ^ 32

  answer-small : {r : Result ℕ Refusal} → Answered why ns (room / 4) r → Small r
  answer-small (barred-by e) = barred-small (ending e)
  answer-small (no_room e l) = words_small (ending e)
  answer-small (done e l) = words_small (ending e)

  pub merging-bytes-small : {r : Refusal} → Err r ≡ merging_bytes o bs cs room → carried_by r < 2 ^ 32
  merging-bytes-small e = answer-small (answered why ns (room / 4) (sym e))

  pub merged-bytes-small : {n : ℕ} → Ok n ≡ merging_bytes o bs cs room → n < 2 ^ 32
  merged-bytes-small e = answer-small (answered why ns (room / 4) (sym e))
