-- The item that a word begins, and the step from a word to a place. Assumes nothing.
use Rattle.std.specs.Prelude.{Result, Ok, Err}
use mathlib.Core.Path.{◌≡◌, refl, sym, ap, ◌∙◌, subst}
use mathlib.Core.Bool.{Bool, true, false}
use mathlib.Core.List.{List, [], ◌∷◌}
use Prim.Native.Nat.{ℕ, ◌+◌, ◌-◌, ◌^◌, ◌<◌, ◌≤◌}
use native.Mathlib.Omega.{arith}
use borrow.Author.Tests.{leb-true, leb-false, ltb-true, ltb-false, lt-leb, le-leb}
use lib.Dec.{leb, ltb}
use lib.ListN.{length, drop, get_or, length-drop, get_or-eq_default}
use lib.Seq.{drop-drop}
use Rattle.ring.specs.Ring.{distance}
use Rattle.refusal.specs.declared.Refusal.{Refusal}
use Rattle.refusal.specs.declared.Refusal.TheVariants.{OpenRange, FlaggedEnd, BackwardRange}
use Rattle.loss_list.specs.Run.{flagged, precedes}
use Rattle.loss_list.specs.Expand.{Faulty as Unsound, keep, items}
use Rattle.loss_list.specs.Walk.{IsSound}
use Rattle.loss_list.proofs.Places.{one_from, none_from, two_from, last-from}
use Rattle.loss_list.proofs.Items.{plain, open-range, flagged-end, backward-range, sound-range as range-item}
use Rattle.loss_steps.specs.Items.{ran, closed, head_of, head_at, HeadAt, Looked, followed, Within}
use Rattle.loss_steps.specs.declared.item.Head.{Head}

-- the five cases of `head_of`
module _ (p w : ℕ) (ws : List ℕ) where
  pub head-lone : w < 2 ^ 31 → head_of p w ws ≡ ran w 0 1
  unfolding head_of
  head-lone h = simp (lt-leb (2 ^ 31) w h)

  pub head-closed : 2 ^ 31 ≤ w → head_of p w ws ≡ closed p (w - 2 ^ 31) ws
  unfolding head_of
  head-closed f = simp (le-leb (2 ^ 31) w f)

pub head-open : (p w : ℕ) → 2 ^ 31 ≤ w → head_of p w [] ≡ Err (OpenRange p)
unfolding closed
head-open p w f = head-closed p w [] f

module _ (p w e : ℕ) (ws : List ℕ) (f : 2 ^ 31 ≤ w) where
  pub head-flagged : 2 ^ 31 ≤ e → head_of p w (e ∷ ws) ≡ Err (FlaggedEnd (p + 1))
  unfolding closed
  head-flagged h = head-closed p w (e ∷ ws) f ∙ simp (le-leb (2 ^ 31) e h)

  pub head-backward : e < 2 ^ 31 → precedes (w - 2 ^ 31) e ≡ false → head_of p w (e ∷ ws) ≡ Err (BackwardRange (p + 1))
  unfolding closed
  head-backward h b = head-closed p w (e ∷ ws) f ∙ simp (lt-leb (2 ^ 31) e h, b)

  pub head-range : e < 2 ^ 31 → precedes (w - 2 ^ 31) e ≡ true → head_of p w (e ∷ ws) ≡ ran (w - 2 ^ 31) (distance 31 e (w - 2 ^ 31)) 2
  unfolding closed
  head-range h b = head-closed p w (e ∷ ws) f ∙ simp (lt-leb (2 ^ 31) e h, b)

-- a word begins the items that its head says, and its head takes no more words than there are
abbrev Begins : ℕ → ℕ → List ℕ → Type 0
Begins p w ws = (items p (w ∷ ws) ≡ followed (head_of p w ws) p (w ∷ ws)) × Within (head_of p w ws) (length (w ∷ ws))

module _ (p w : ℕ) (l : w < 2 ^ 32) where
  begins-lone : (ws : List ℕ) → w < 2 ^ 31 → Begins p w ws
  unfolding followed Within
  begins-lone ws h = rw (head-lone p w ws h) (plain p w ws h, omega arith)

  begins-open : 2 ^ 31 ≤ w → Begins p w []
  unfolding followed Within
  begins-open f = rw (head-open p w f) (open-range p w f, tt)

  module _ (e : ℕ) (ws : List ℕ) (f : 2 ^ 31 ≤ w) where
    begins-flagged : 2 ^ 31 ≤ e → Begins p w (e ∷ ws)
    unfolding followed Within
    begins-flagged h = rw (head-flagged p w e ws f h) (flagged-end p w e ws f h, tt)

    begins-closed : e < 2 ^ 31 → (b : Bool) → precedes (w - 2 ^ 31) e ≡ b → Begins p w (e ∷ ws)
    unfolding followed Within
    begins-closed h false b = rw (head-backward p w e ws f h b) (backward-range p w e ws f h b, tt)
    begins-closed h true b = rw (head-range p w e ws f h b) (range-item p w e ws f h b, omega arith)

  begins : (ws : List ℕ) → Begins p w ws
  begins [] = go (flagged w) refl
    where
      go : (b : Bool) → flagged w ≡ b → Begins p w []
      go false f = begins-lone [] (leb-false (2 ^ 31) w f)
      go true f = begins-open (leb-true (2 ^ 31) w f)
  begins (e ∷ ws) = go (flagged w) refl (flagged e) refl
    where
      go : (b : Bool) → flagged w ≡ b → (c : Bool) → flagged e ≡ c → Begins p w (e ∷ ws)
      go false f c g = begins-lone (e ∷ ws) (leb-false (2 ^ 31) w f)
      go true f true g = begins-flagged e ws (leb-true (2 ^ 31) w f) (leb-true (2 ^ 31) e g)
      go true f false g = begins-closed e ws (leb-true (2 ^ 31) w f) (leb-false (2 ^ 31) e g) (precedes (w - 2 ^ 31) e) refl

module _ (ws : List ℕ) (i : ℕ) where
  pub head-here : i < length ws → get_or ws i 0 < 2 ^ 32 → HeadAt ws i (head_at ws i)
  head-here h l =
      let b = begins i (get_or ws i 0) l (drop (i + 1) ws) in
      let here = one_from ws i h in
      let long : length (get_or ws i 0 ∷ drop (i + 1) ws) ≡ length ws - i = omega (arith, length-drop (i + 1) ws) in
      record { item = rw here b.0; within = subst (Within (head_at ws i)) long b.1 }

  -- the five returns of `head_at`
  pub at-lone : get_or ws i 0 < 2 ^ 31 → ran (get_or ws i 0) 0 1 ≡ head_at ws i
  at-lone l = sym (head-lone i (get_or ws i 0) (drop (i + 1) ws) l)

  module _ (f : 2 ^ 31 ≤ get_or ws i 0) where
    pub flagged-within : i < length ws
    flagged-within = go (ltb i (length ws)) refl
      where
        go : (b : Bool) → ltb i (length ws) ≡ b → i < length ws
        go true e = ltb-true i (length ws) e
        go false e = absurd (let none : get_or ws i 0 ≡ 0 = get_or-eq_default ws 0 (ltb-false i (length ws) e) in omega arith)

    pub at-open : length ws ≤ i + 1 → Err (OpenRange i) ≡ head_at ws i
    at-open l = sym (rw (none_from ws (i + 1) l) (head-open i (get_or ws i 0) f))

    module _ (l : i + 1 < length ws) where
      abbrev end : ℕ
      end = get_or ws (i + 1) 0

      pub at-flagged : 2 ^ 31 ≤ end → Err (FlaggedEnd (i + 1)) ≡ head_at ws i
      at-flagged g = sym (rw (one_from ws (i + 1) l) (head-flagged i (get_or ws i 0) end _ f g))

      pub at-backward : end < 2 ^ 31 → precedes (get_or ws i 0 - 2 ^ 31) end ≡ false → Err (BackwardRange (i + 1)) ≡ head_at ws i
      at-backward g b = sym (rw (one_from ws (i + 1) l) (head-backward i (get_or ws i 0) end _ f g b))

      pub at-range : end < 2 ^ 31 → precedes (get_or ws i 0 - 2 ^ 31) end ≡ true → ran (get_or ws i 0 - 2 ^ 31) (distance 31 end (get_or ws i 0 - 2 ^ 31)) 2 ≡ head_at ws i
      at-range g b = sym (rw (one_from ws (i + 1) l) (head-range i (get_or ws i 0) end _ f g b))

-- each return of `head_at`
pub told : (ws : List ℕ) (i : ℕ) {r : Result Head Refusal} → get_or ws i 0 < 2 ^ 32 → r ≡ head_at ws i → Looked ws i r
told ws i l e = record { is = e; item = λ h. subst (HeadAt ws i) (sym e) (head-here ws i h l) }

-- where a list is known to have no fault, the flag alone tells the item
module _ (ws : List ℕ) (i : ℕ) (h : i < length ws) where
  abbrev word : ℕ
  word = get_or ws i 0

  abbrev next : ℕ
  next = get_or ws (i + 1) 0

  pub sound-plain : word < 2 ^ 31 → HeadAt ws i (ran word 0 1)
  unfolding followed Within
  sound-plain l =
      let here : drop i ws ≡ word ∷ drop (i + 1) ws = one_from ws i h in
      record { item = rw here (plain i word (drop (i + 1) ws) l); within = omega arith }

  module _ (f : 2 ^ 31 ≤ word) (s : IsSound (items i (drop i ws))) where
    pub sound_more : i + 1 < length ws
    unfolding IsSound
    sound_more = go (ltb (i + 1) (length ws)) refl
      where
        go : (b : Bool) → ltb (i + 1) (length ws) ≡ b → i + 1 < length ws
        go true e = ltb-true (i + 1) (length ws) e
        go false e = absurd (subst IsSound (ap (items i) (last-from ws i h (ltb-false (i + 1) (length ws) e)) ∙ open-range i word f) s)

    sound-two : IsSound (items i (word ∷ next ∷ drop (i + 2) ws))
    sound-two = subst (λ (l : List ℕ). IsSound (items i l)) (two_from ws i sound_more) s

    sound-end : next < 2 ^ 31
    unfolding IsSound
    sound-end = go (leb (2 ^ 31) next) refl
      where
        go : (b : Bool) → leb (2 ^ 31) next ≡ b → next < 2 ^ 31
        go true e = absurd (subst IsSound (flagged-end i word next (drop (i + 2) ws) f (leb-true (2 ^ 31) next e)) sound-two)
        go false e = leb-false (2 ^ 31) next e

    pub sound-less : precedes (word - 2 ^ 31) next ≡ true
    unfolding IsSound
    sound-less = go (precedes (word - 2 ^ 31) next) refl
      where
        go : (b : Bool) → precedes (word - 2 ^ 31) next ≡ b → precedes (word - 2 ^ 31) next ≡ true
        go true e = e
        go false e = absurd (subst IsSound (backward-range i word next (drop (i + 2) ws) f sound-end e) sound-two)

    pub sound-range : word < 2 ^ 32 → HeadAt ws i (ran (word - 2 ^ 31) (distance 31 next (word - 2 ^ 31)) 2)
    sound-range l = subst (HeadAt ws i) (sym (at-range ws i f sound_more sound-end sound-less)) (head-here ws i h l)

-- what a walk learns of the item at its place: how far it reaches, and how the list goes on after it
module _ (ws : List ℕ) (i : ℕ) {r : Result Head Refusal} (at : HeadAt ws i r) where
  pub run-within : {h : Head} → r ≡ Ok h → (0 < h.words) × (h.words ≤ length ws - i) × (h.steps < 2 ^ 31) × (h.first < 2 ^ 31)
  unfolding Within
  run-within e = subst (λ (x : Result Head Refusal). Within x (length ws - i)) e at.within

  pub run-item : {h : Head} → r ≡ Ok h
      → items i (drop i ws) ≡ keep (record { place = i; run = record { first = h.first; steps = h.steps } }) (items (i + h.words) (drop (i + h.words) ws))
  unfolding followed
  run-item {h} e = at.item ∙ rw (e, drop-drop h.words i ws)

  pub fault-item : {f : Refusal} → r ≡ Err f → items i (drop i ws) ≡ Unsound f
  unfolding followed
  fault-item e = at.item ∙ rw e

  -- a list with no fault begins with a run
  pub sound-run : IsSound (items i (drop i ws)) → ((h : Head) → r ≡ Ok h → ⊥) → ⊥
  unfolding IsSound
  sound-run s n = go r refl
    where
      go : (x : Result Head Refusal) → r ≡ x → ⊥
      go (Ok h) e = n h e
      go (Err f) e = subst IsSound (fault-item e) s
