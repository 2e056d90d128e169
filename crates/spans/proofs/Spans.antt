-- The item at a place, told by its steps from the oldest: what comes after it, when it lies in the window, and which numbers it covers there. Assumes nothing.
use mathlib.Core.Path.{◌≡◌, refl, sym, ap, subst, ◌∙◌}
use mathlib.Core.Bool.{Bool, true, false, cond}
use mathlib.Core.List.{List, [], ◌∷◌, ◌++◌, append-nil}
use mathlib.Core.Option.{none, some}
use Prim.Native.Nat.{ℕ, zero, suc, ◌+◌, ◌-◌, ◌/◌, ◌^◌, ◌<◌, ◌≤◌}
use native.Mathlib.Nat.{mod-eq_of_lt}
use native.Mathlib.Omega.{arith}
use borrow.Author.Tests.{leb-true, leb-false, le-leb, lt-leb, ltb-true, ltb-false, lt-ltb, le-ltb}
use lib.Dec.{leb, ltb}
use lib.ListN.{length, drop, get_or, length-append}
use lib.Seq.{get_or-append-add}
use Rattle.ring.specs.Ring.{after, distance, half}
use Rattle.ring.proofs.Theorems.{distance-leads}
use Rattle.wire.specs.Bytes.{in_words}
use Rattle.wire.proofs.Words.{length-in_words}
use Rattle.loss_list.specs.Run.{flagged, stretch, numbers_in}
use Rattle.loss_list.specs.Expand.{Item, Parsed, Sound, Faulty, keep, items, items_of}
use Rattle.loss_list.specs.Has.{covers}
use Rattle.loss_list.specs.Walk.{IsSound}
use Rattle.loss_list.proofs.Has.{covers-is}
use Rattle.loss_list.proofs.Items.{keep-sound}
use Rattle.loss_list.proofs.Places.{none_from}
use Rattle.loss_list.proofs.Precedes.{precedes-steps, steps_back}
use Rattle.loss_steps.specs.Items.{HeadAt, ran}
use Rattle.loss_steps.proofs.Heads.{sound-plain, sound-range, sound-less, run-within, run-item}
use Rattle.merging.specs.Merging.{all_in_window, first_outside}
use Rattle.spans.specs.Spans.{lent, span_of, SpanAt, ItemAt, items_from}
use Rattle.spans.specs.declared.Span.{Span}

-- a list in two parts has the words of both
pub length_lent : (ws bs : List ℕ) → length ws + length bs / 4 ≡ length (lent ws bs)
length_lent ws bs = omega (arith, length-append ws (in_words bs), length-in_words bs)

-- a word of the second part
pub past_first : (ws vs : List ℕ) (i : ℕ) → length ws ≤ i → get_or vs (i - length ws) 0 ≡ get_or (ws ++ vs) i 0
past_first ws vs i h =
    let there : length ws + (i - length ws) ≡ i = omega arith in
    sym (get_or-append-add ws vs (i - length ws) 0) ∙ ap (λ (k : ℕ). get_or (ws ++ vs) k 0) there

-- a list whose second part is empty is the words alone
pub lent-words : (ws : List ℕ) → lent ws [] ≡ ws
unfolding in_words
lent-words ws = append-nil ws

-- the two cases of `span_of`
module _ (o w e : ℕ) where
  pub span-lone : w < 2 ^ 31 → record { from = distance 31 w o; to = distance 31 w o; words = 1 } ≡ span_of o w e
  unfolding span_of
  span-lone h = simp (lt-leb (2 ^ 31) w h)

  pub span-range : 2 ^ 31 ≤ w → record { from = distance 31 (w - 2 ^ 31) o; to = distance 31 (w - 2 ^ 31) o + distance 31 e (w - 2 ^ 31); words = 2 } ≡ span_of o w e
  unfolding span_of
  span-range h = simp (le-leb (2 ^ 31) w h)

kept-front : (i : Item) (ps : Parsed) → IsSound (keep i ps) → items_of (keep i ps) ≡ i ∷ items_of ps
unfolding keep items_of IsSound
kept-front i (Sound is) s = refl
kept-front i (Faulty r) s = absurd s

module _ (o : ℕ) (ws : List ℕ) (i : ℕ) (h : i < length ws) (s : IsSound (items i (drop i ws))) where
  item_of : {first steps words : ℕ} → HeadAt ws i (ran first steps words) → steps < half 31
      → ItemAt o ws i (record { from = distance 31 first o; to = distance 31 first o + steps; words = words })
  item_of {first} {steps} {words} at k =
      let this : Item = record { place = i; run = record { first = first; steps = steps } } in
      let rest : Parsed = items (i + words) (drop (i + words) ws) in
      let w = run-within ws i at refl in
      let whole : IsSound (keep this rest) = subst IsSound (run-item ws i at refl) s in
      record {
        item = this;
        here = ap items_of (run-item ws i at refl) ∙ kept-front this rest whole;
        sound = keep-sound this rest whole;
        more = w.0;
        within = w.1;
        from = refl;
        to = refl;
        place = refl;
        first-in = w.3;
        steps-in = k;
      }

  pub span-item : {r : Span} → SpanAt o ws i r → ItemAt o ws i r
  span-item {r} e = subst (ItemAt o ws i) (sym e.same) (go (flagged (get_or ws i 0)) refl)
    where
      go : (b : Bool) → flagged (get_or ws i 0) ≡ b → ItemAt o ws i (span_of o (get_or ws i 0) (get_or ws (i + 1) 0))
      go true k =
          let f = leb-true (2 ^ 31) (get_or ws i 0) k in
          subst (ItemAt o ws i) (span-range o _ _ f) (item_of (sound-range ws i h f s e.word) ((precedes-steps _ _).0 (sound-less ws i h f s)).1)
      go false k =
          let l = leb-false (2 ^ 31) (get_or ws i 0) k in
          let none_more : distance 31 (get_or ws i 0) o + 0 ≡ distance 31 (get_or ws i 0) o = omega arith in
          subst (ItemAt o ws i) (ap (λ (t : ℕ). record { from = distance 31 (get_or ws i 0) o; to = t; words = 1 }) none_more ∙ span-lone o _ _ l) (item_of (sound-plain ws i h l) (omega arith))

-- from the end of a list on there is no item
pub no_items : (ws : List ℕ) (i : ℕ) → length ws ≤ i → items_from ws i ≡ []
unfolding items items_of
no_items ws i h = ap (λ (xs : List ℕ). items_of (items i xs)) (none_from ws i h)

-- one step on is one more from the oldest, within the window
one_on : (o a : ℕ) → distance 31 a o < half 31 → distance 31 (after 31 a 1) o ≡ suc (distance 31 a o)
one_on o a l = omega arith

-- a stretch lies in the window where its first number and its steps together do
stretch-inside : (o a steps : ℕ) → all_in_window o (stretch a steps) ≡ ltb (distance 31 a o + steps) (half 31)
unfolding all_in_window stretch
stretch-inside o a zero = go (ltb (distance 31 a o) (half 31)) refl
  where
    go : (b : Bool) → ltb (distance 31 a o) (half 31) ≡ b → cond b true false ≡ ltb (distance 31 a o + 0) (half 31)
    go true e = sym (lt-ltb (distance 31 a o + 0) (half 31) (omega (arith, ltb-true (distance 31 a o) (half 31) e)))
    go false e = sym (le-ltb (distance 31 a o + 0) (half 31) (omega (arith, ltb-false (distance 31 a o) (half 31) e)))
stretch-inside o a (suc n) = go (stretch-inside o (after 31 a 1) n) (ltb (distance 31 a o) (half 31)) refl
  where
    go : all_in_window o (stretch (after 31 a 1) n) ≡ ltb (distance 31 (after 31 a 1) o + n) (half 31) → (b : Bool) → ltb (distance 31 a o) (half 31) ≡ b → cond b (all_in_window o (stretch (after 31 a 1) n)) false ≡ ltb (distance 31 a o + suc n) (half 31)
    go later true e =
        let on : distance 31 (after 31 a 1) o + n ≡ distance 31 a o + suc n = omega (arith, one_on o a (ltb-true (distance 31 a o) (half 31) e)) in
        later ∙ ap (λ (d : ℕ). ltb d (half 31)) on
    go later false e = sym (le-ltb (distance 31 a o + suc n) (half 31) (omega (arith, ltb-false (distance 31 a o) (half 31) e)))

-- two numbers by their steps from a third
module _ (o f d : ℕ) (in-ring : f < 2 ^ 31) where
  abbrev a : ℕ
  a = distance 31 f o

  steps_on : (n : ℕ) → after 31 f n ≡ after 31 o (a + n)
  steps_on n =
      let led : after 31 o a ≡ f = distance-leads 31 f o ∙ mod-eq_of_lt in-ring in
      let on : after 31 (after 31 o a) n ≡ after 31 o (a + n) = omega arith in
      ap (λ (m : ℕ). after 31 m n) (sym led) ∙ on

  apart : a ≤ d → d < 2 ^ 31 → distance 31 (after 31 o d) f ≡ d - a
  apart h l =
      let all : a + (d - a) ≡ d = omega arith in
      ap (λ (m : ℕ). distance 31 m f) (ap (after 31 o) (sym all) ∙ sym (steps_on (d - a))) ∙ steps_back f (d - a) (omega arith)

  around : d < a → a < 2 ^ 31 → distance 31 (after 31 o d) f ≡ d + 2 ^ 31 - a
  around h l =
      let once : after 31 o (a + (d + 2 ^ 31 - a)) ≡ after 31 o d = omega arith in
      ap (λ (m : ℕ). distance 31 m f) (sym once ∙ sym (steps_on (d + 2 ^ 31 - a))) ∙ steps_back f (d + 2 ^ 31 - a) (omega arith)

module _ {o : ℕ} {ws : List ℕ} {i : ℕ} {s : Span} (a : ItemAt o ws i s) where
  inside_is : all_in_window o (numbers_in a.item.run) ≡ ltb s.to (half 31)
  unfolding numbers_in
  inside_is = stretch-inside o a.item.run.first a.item.run.steps ∙ ap (λ (d : ℕ). ltb d (half 31)) (ap (λ (d : ℕ). d + a.item.run.steps) (sym a.from) ∙ sym a.to)

  pub outside-here : half 31 ≤ s.to → first_outside o (items_from ws i) ≡ some i
  unfolding first_outside
  outside-here h = ap (first_outside o) a.here ∙ rw (inside_is, le-ltb s.to (half 31) h) (ap some a.place)

  pub outside-later : s.to < half 31 → first_outside o (items_from ws i) ≡ first_outside o (items_from ws (i + s.words))
  unfolding first_outside
  outside-later h = ap (first_outside o) a.here ∙ rw (inside_is, lt-ltb s.to (half 31) h)

  -- where no item lies outside, this one does not
  pub inside-here : first_outside o (items_from ws i) ≡ none → s.to < half 31
  inside-here e = go (ltb s.to (half 31)) refl
    where
      go : (b : Bool) → ltb s.to (half 31) ≡ b → s.to < half 31
      go true k = ltb-true s.to (half 31) k
      go false k = absurd (let clash = sym (outside-here (ltb-false s.to (half 31) k)) ∙ e in let z : ◌≡◌ {A = ℕ} 0 1 = cc in omega arith)

-- the numbers of the window that an item inside it covers
module _ (o : ℕ) (i : Item) (in-ring : i.run.first < 2 ^ 31) (inside : distance 31 i.run.first o + i.run.steps < half 31) (d : ℕ) (near : d < half 31) where
  abbrev far : ℕ
  far = distance 31 (after 31 o d) i.run.first

  covered : covers i (after 31 o d) ≡ leb far i.run.steps
  unfolding numbers_in
  covered = covers-is i.place i.run.first i.run.steps (after 31 o d) in-ring (omega arith) (omega arith)

  pub covers-there : distance 31 i.run.first o ≤ d → d ≤ distance 31 i.run.first o + i.run.steps → covers i (after 31 o d) ≡ true
  covers-there f t = covered ∙ le-leb far i.run.steps (omega (arith, apart o i.run.first d in-ring f (omega arith)))

  pub covers-not-before : d < distance 31 i.run.first o → covers i (after 31 o d) ≡ false
  covers-not-before f = covered ∙ lt-leb far i.run.steps (omega (arith, around o i.run.first d in-ring f (omega arith)))

  pub covers-not-after : distance 31 i.run.first o + i.run.steps < d → covers i (after 31 o d) ≡ false
  covers-not-after t = covered ∙ lt-leb far i.run.steps (omega (arith, apart o i.run.first d in-ring (omega arith) (omega arith)))
