-- How a list's items go on from a word: one equation for each way. The walks cite these and never open `items`. Assumes nothing.
use mathlib.Core.Path.{◌≡◌, refl, ◌∙◌}
use mathlib.Core.Bool.{true, false}
use mathlib.Core.List.{List, [], ◌∷◌, ◌++◌}
use Prim.Native.Nat.{ℕ, ◌+◌, ◌-◌, ◌^◌, ◌<◌, ◌≤◌}
use borrow.Author.Tests.{lt-leb, le-leb}
use Rattle.refusal.specs.declared.Refusal.TheVariants.{OpenRange, FlaggedEnd, BackwardRange}
use Rattle.loss_list.specs.Run.{precedes, numbers_in}
use Rattle.loss_list.specs.Expand.{Item, Parsed, Sound, Faulty, keep, lone, ranged, items, range_from, expansion, numbers_of}
use Rattle.loss_list.specs.Walk.{IsSound}

module _ (p w : ℕ) (ws : List ℕ) where
  pub plain : w < 2 ^ 31 → items p (w ∷ ws) ≡ keep (lone p w) (items (p + 1) ws)
  unfolding items
  plain h = rw (lt-leb (2 ^ 31) w h, items)

  opens : 2 ^ 31 ≤ w → items p (w ∷ ws) ≡ range_from p (w - 2 ^ 31) ws
  unfolding items
  opens h = rw (le-leb (2 ^ 31) w h, items)

pub open-range : (p w : ℕ) → 2 ^ 31 ≤ w → items p (w ∷ []) ≡ Faulty (OpenRange p)
unfolding items
open-range p w h = opens p w [] h

module _ (p w e : ℕ) (ws : List ℕ) (f : 2 ^ 31 ≤ w) where
  pub flagged-end : 2 ^ 31 ≤ e → items p (w ∷ e ∷ ws) ≡ Faulty (FlaggedEnd (p + 1))
  unfolding items
  flagged-end h = opens p w (e ∷ ws) f ∙ rw (le-leb (2 ^ 31) e h, range_from)

  pub backward-range : e < 2 ^ 31 → precedes (w - 2 ^ 31) e ≡ false → items p (w ∷ e ∷ ws) ≡ Faulty (BackwardRange (p + 1))
  unfolding items
  backward-range h b = opens p w (e ∷ ws) f ∙ rw (lt-leb (2 ^ 31) e h, b, range_from)

  pub sound-range : e < 2 ^ 31 → precedes (w - 2 ^ 31) e ≡ true → items p (w ∷ e ∷ ws) ≡ keep (ranged p (w - 2 ^ 31) e) (items (p + 2) ws)
  unfolding items
  sound-range h b = opens p w (e ∷ ws) f ∙ rw (lt-leb (2 ^ 31) e h, b, range_from)

-- a list of which an item is taken off is as sound, and stands for the numbers that are left
pub keep-sound : (i : Item) (ps : Parsed) → IsSound (keep i ps) → IsSound ps
unfolding keep IsSound
keep-sound i (Sound is) s = tt
keep-sound i (Faulty r) s = s

pub keep-numbers : (i : Item) (ps : Parsed) → IsSound (keep i ps) → numbers_of (keep i ps) ≡ numbers_in i.run ++ numbers_of ps
unfolding keep IsSound numbers_of expansion
keep-numbers i (Sound is) s = refl
keep-numbers i (Faulty r) s = absurd s
