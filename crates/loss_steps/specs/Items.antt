-- Items told and counted one by one, in the terms of Expand. Assumes nothing.
use Rattle.refusal.specs.declared.Refusal.{Refusal}
use Rattle.std.specs.Prelude.{ℕ, ◌+◌, ◌-◌, ◌^◌, ◌≤◌, ◌<◌, ◌≡◌, cond, List, [], ◌∷◌, ltb, length, drop, get_or, Some, None, Result, Ok, Err}
use Rattle.ring.specs.Ring.{distance}
use Rattle.refusal.specs.declared.Refusal.TheVariants.{OpenRange, FlaggedEnd, BackwardRange, TooManyNumbers}
use Rattle.loss_list.specs.Run.{limit, flagged, precedes}
use Rattle.loss_list.specs.Expand.{Parsed, Sound, Faulty, keep, items, past_limit, total, counted}
use Rattle.loss_steps.specs.declared.item.Head.{Head}
use Rattle.loss_steps.specs.declared.item.Tally.{Tally}

abbrev pub ran : ℕ → ℕ → ℕ → Result Head Refusal
ran first steps words = Ok (record { first = first; steps = steps; words = words })

-- the range that starts at place p with this number, where these words follow, or what is wrong with it
unfoldable pub closed : ℕ → ℕ → List ℕ → Result Head Refusal
closed p start [] = Err (OpenRange p)
closed p start (e ∷ ws) =
    cond (flagged e) (Err (FlaggedEnd (p + 1))) (cond (precedes start e) (ran start (distance 31 e start) 2) (Err (BackwardRange (p + 1))))

-- the item that begins with w at place p, where these words follow
unfoldable pub head_of : ℕ → ℕ → List ℕ → Result Head Refusal
head_of p w ws = cond (flagged w) (closed p (w - 2 ^ 31) ws) (ran w 0 1)

-- the item at place i; past the last word there is 0
abbrev pub head_at : List ℕ → ℕ → Result Head Refusal
head_at ws i = head_of i (get_or ws i 0) (drop (i + 1) ws)

-- the items of a list whose first item is this head: the item and those of the rest, or the fault
unfoldable pub followed : Result Head Refusal → ℕ → List ℕ → Parsed
followed (Ok h) p ws =
    keep (record { place = p; run = record { first = h.first; steps = h.steps } }) (items (p + h.words) (drop h.words ws))
followed (Err r) p ws = Faulty r

-- an item has a word at least, and no more words than are left; its number and its steps stay in the ring
unfoldable pub Within : Result Head Refusal → ℕ → Type 0
Within (Ok h) left = (0 < h.words) × (h.words ≤ left) × (h.steps < 2 ^ 31) × (h.first < 2 ^ 31)
Within (Err r) left = Unit {0}

-- r is the item at place i of ws
pub record HeadAt (ws : List ℕ) (i : ℕ) (r : Result Head Refusal) : Type 0 where
  pub item : items i (drop i ws) ≡ followed r i (drop i ws)
  pub within : Within r (length ws - i)

-- looking at place i of ws answers r; within the list that is the item there
pub record Looked (ws : List ℕ) (i : ℕ) (r : Result Head Refusal) : Type 0 where
  pub is : r ≡ head_at ws i
  pub item : i < length ws → HeadAt ws i r

-- t with an item of so many steps counted, which stands at a place
unfoldable pub tally_with : Tally → ℕ → ℕ → Tally
tally_with t place steps =
    elim t.past [
      | Some p ↦ t
      | None ↦ cond (ltb limit (t.total + (steps + 1))) (record { total = t.total; past = Some place }) (record { total = t.total + (steps + 1); past = None })
    ]

-- the answer to a list of which the items counted in t came before these
unfoldable pub tallied : Tally → Parsed → Result ℕ Refusal
tallied t (Sound is) =
    elim t.past [ Some p ↦ Err (TooManyNumbers p) | None ↦ counted (past_limit limit t.total is) (t.total + total is) ]
tallied t (Faulty r) = Err r
