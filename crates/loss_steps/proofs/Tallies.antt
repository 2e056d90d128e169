-- Counting an item changes nothing in the answer. Assumes nothing.
use Rattle.std.specs.Prelude.{Option, Some, None}
use mathlib.Core.Path.{◌≡◌, refl, ap}
use mathlib.Core.Bool.{Bool, true, false}
use mathlib.Core.List.{◌∷◌}
use Prim.Native.Nat.{ℕ, ◌+◌, ◌<◌, ◌≤◌}
use borrow.Author.Tests.{lt-ltb, le-ltb}
use Rattle.std.specs.Option.{is_some}
use native.Mathlib.Nat.{zero-add}
use native.Mathlib.Omega.{arith}
use lib.Dec.{ltb}
use Rattle.loss_list.specs.Run.{limit}
use Rattle.loss_list.specs.Expand.{Item, Parsed, Sound, Faulty, keep, past_limit, total, counted, formed}
use Rattle.loss_steps.specs.Items.{tallied, tally_with}
use Rattle.loss_steps.specs.declared.item.Tally.{Tally}

pub tally-none : (ps : Parsed) → tallied (record { total = 0; past = None }) ps ≡ formed limit ps
unfolding tallied formed
tally-none (Sound is) = ap (counted (past_limit limit 0 is)) (zero-add (total is))
tally-none (Faulty r) = refl

abbrev item : ℕ → ℕ → ℕ → Item
item place first steps = record { place = place; run = record { first = first; steps = steps } }

-- the item counted, or still to be counted: the answer is the same
pub tally-carries : (t : Tally) (place first steps : ℕ) (rest : Parsed) → tallied t (keep (item place first steps) rest) ≡ tallied (tally_with t place steps) rest
unfolding tallied keep tally_with past_limit counted total
tally-carries t place first steps (Faulty r) = refl
tally-carries t place first steps (Sound is) = go t.past refl (ltb limit (t.total + (steps + 1))) refl
  where
    go : (p : Option ℕ) → t.past ≡ p → (o : Bool) → ltb limit (t.total + (steps + 1)) ≡ o → tallied t (Sound (item place first steps ∷ is)) ≡ tallied (tally_with t place steps) (Sound is)
    go (Some q) p o l = rw p
    go None p true l = rw (p, l, past_limit)
    go None p false l = rw (p, l, past_limit) (ap (counted (past_limit limit (t.total + (steps + 1)) is)) (omega arith))

-- the three returns of `Tally::with`
module _ (t : Tally) (place steps : ℕ) where
  pub with-past : is_some t.past ≡ true → t ≡ tally_with t place steps
  unfolding tally_with
  with-past e = go t.past refl e
    where
      go : (o : Option ℕ) → t.past ≡ o → is_some o ≡ true → t ≡ tally_with t place steps
      go (Some p) o e = rw o
      go None o e = absurd (let z : ◌≡◌ {A = ℕ} 0 1 = cc in omega arith)

  module _ (e : is_some t.past ≡ false) where
    none_past : t.past ≡ None
    none_past = go t.past refl e
      where
        go : (o : Option ℕ) → t.past ≡ o → is_some o ≡ false → t.past ≡ None
        go None o e = o
        go (Some p) o e = absurd (let z : ◌≡◌ {A = ℕ} 0 1 = cc in omega arith)

    pub with-more : t.total + (steps + 1) ≤ limit → record { total = t.total + (steps + 1); past = None } ≡ tally_with t place steps
    unfolding tally_with
    with-more l = rw (none_past, le-ltb limit (t.total + (steps + 1)) l)

    pub with_over : limit < t.total + (steps + 1) → record { total = t.total; past = Some place } ≡ tally_with t place steps
    unfolding tally_with
    with_over l = rw (none_past, lt-ltb limit (t.total + (steps + 1)) l)
