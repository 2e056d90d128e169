-- The walk that looks for a number: what it has found, with what the items that are left say, is what the whole list says. Assumes nothing.
use Rattle.std.specs.Prelude.{Option, Some, None}
use Rattle.std.specs.Option.{option_or}
use Rattle.std.specs.Bool.{then_some}
use mathlib.Core.Path.{◌≡◌, refl, sym, ap, subst, ◌∙◌}
use mathlib.Core.Bool.{Bool, true, false}
use mathlib.Core.List.{List, [], ◌∷◌}
use Prim.Native.Nat.{ℕ, ◌+◌, ◌-◌, ◌^◌, ◌<◌, ◌≤◌}
use borrow.Author.Tests.{leb-true, leb-false}
use lib.Dec.{leb}
use lib.ListN.{length, drop, get_or}
use Rattle.ring.specs.Ring.{distance}
use Rattle.loss_list.specs.Run.{flagged}
use Rattle.loss_list.specs.Expand.{Item, Parsed, Sound, Faulty, keep, items, items_of}
use Rattle.loss_list.specs.Has.{covers}
use Rattle.loss_list.specs.Walk.{IsSound}
use Rattle.loss_list.proofs.Has.{no_steps, covers-is}
use Rattle.loss_list.proofs.Items.{keep-sound}
use Rattle.loss_list.proofs.Places.{none_from}
use Rattle.loss_steps.specs.Items.{ran, HeadAt}
use Rattle.loss_steps.proofs.Heads.{sound-plain, sound-range, run-within, run-item}
use Rattle.why_lost.specs.WhyLost.{first_covering, searched}
use Rattle.why_lost.specs.Steps.{look_of, found_with, found_before}
use Rattle.why_lost.specs.declared.look.Look.{Look}

-- the step that `search` takes is `found_with`
pub or-then : (f : Option ℕ) (c : Bool) (p : ℕ) → option_or f (then_some c p) ≡ found_with f c p
unfolding found_with
or-then (Some q) c p = refl
or-then None true p = refl
or-then None false p = refl

-- what was found before, with the items that are left, gives the list's answer
pub record Searching (ws : List ℕ) (n : ℕ) (f : Option ℕ) (i : ℕ) : Type 0 where
  pub number : n < 2 ^ 31
  pub sound : IsSound (items i (drop i ws))
  pub same : found_before f (items i (drop i ws)) n ≡ searched (items 0 ws) n

pub searching-start : (ws : List ℕ) (n : ℕ) → IsSound (items 0 ws) → n < 2 ^ 31 → Searching ws n None 0
unfolding found_before
searching-start ws n s l = record { number = l; sound = s; same = refl }

-- a turn of the walk: the item looked at has a word at least, ends within the list, and is counted in what was found
pub record Turn (ws : List ℕ) (n : ℕ) (f : Option ℕ) (i : ℕ) (r : Look) : Type 0 where
  pub more : 0 < r.words
  pub within : r.words ≤ length ws - i
  pub next : {g : Option ℕ} → g ≡ found_with f r.covers i → Searching ws n g (i + r.words)

-- one item more, looked at or left
found-carries : (f : Option ℕ) (i : Item) (ps : Parsed) (n : ℕ) → IsSound (keep i ps) → found_before f (keep i ps) n ≡ found_before (found_with f (covers i n) i.place) ps n
unfolding found_before found_with keep items_of first_covering IsSound
found-carries f i (Faulty r) n s = absurd s
found-carries (Some q) i (Sound is) n s = refl
found-carries None i (Sound is) n s = go (covers i n) refl
  where
    go : (c : Bool) → covers i n ≡ c → found_before None (Sound (i ∷ is)) n ≡ found_before (found_with None c i.place) (Sound is) n
    go true k = rw k
    go false k = rw k

module _ (ws : List ℕ) (n : ℕ) (f : Option ℕ) (i : ℕ) (x : Searching ws n f i) where
  module _ {first steps words : ℕ} (h : HeadAt ws i (ran first steps words)) where
    abbrev item : Item
    item = record { place = i; run = record { first = first; steps = steps } }

    abbrev rest : Parsed
    rest = items (i + words) (drop (i + words) ws)

    kept : IsSound (keep item rest)
    kept = subst IsSound (run-item ws i h refl) x.sound

    covered : covers item n ≡ leb (distance 31 n first) steps
    covered = let w = run-within ws i h refl in covers-is i first steps n w.3 w.2 x.number

    looked : Searching ws n (found_with f (leb (distance 31 n first) steps) i) (i + words)
    looked =
        record {
          number = x.number;
          sound = keep-sound item rest kept;
          same = ap (λ (c : Bool). found_before (found_with f c i) rest n) (sym covered) ∙ sym (found-carries f item rest n kept) ∙ ap (λ (ps : Parsed). found_before f ps n) (sym (run-item ws i h refl)) ∙ x.same;
        }

  -- the look at a place is at the item there
  module _ (h : i < length ws) (l : get_or ws i 0 < 2 ^ 32) {r : Look} (e : r ≡ look_of (get_or ws i 0) (get_or ws (i + 1) 0) n) where
    abbrev Looked : Look → Type 0
    Looked k = (first : ℕ) × (steps : ℕ) × HeadAt ws i (ran first steps k.words) × (k.covers ≡ leb (distance 31 n first) steps)

    look-head : Looked r
    unfolding look_of
    look-head = subst Looked (sym e) (go (flagged (get_or ws i 0)) refl)
      where
        go : (b : Bool) → flagged (get_or ws i 0) ≡ b → Looked (look_of (get_or ws i 0) (get_or ws (i + 1) 0) n)
        go true k = rw k (_, _, sound-range ws i h (leb-true (2 ^ 31) (get_or ws i 0) k) x.sound l, refl)
        go false k =
            let small = leb-false (2 ^ 31) (get_or ws i 0) k in
            rw k (_, 0, sound-plain ws i h small, no_steps (get_or ws i 0) n small x.number)

    pub searching-turn : Turn ws n f i r
    searching-turn =
        let w = run-within ws i look-head.2 refl in
        record { more = w.0; within = w.1; next = λ q. rw (q, look-head.3) (looked look-head.2) }

  -- what is found where no item is left
  left : (g : Option ℕ) → g ≡ found_before g (Sound []) n
  unfolding items_of first_covering found_before
  left (Some q) = refl
  left None = refl

  pub searching-end : length ws ≤ i → f ≡ searched (items 0 ws) n
  unfolding items
  searching-end l = left f ∙ ap (λ (xs : List ℕ). found_before f (items i xs) n) (sym (none_from ws i l)) ∙ x.same
