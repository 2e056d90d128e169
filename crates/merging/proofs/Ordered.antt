-- Numbers put in order one by one are the numbers of the window that a test picks: a number put among those that are picked is picked besides. Assumes nothing.
use mathlib.Core.Path.{◌≡◌, refl, sym, ap, subst, ◌∙◌}
use mathlib.Core.Bool.{Bool, true, false, cond}
use mathlib.Core.List.{List, [], ◌∷◌, ◌++◌}
use mathlib.Core.Option.{Option, none, some}
use Prim.Native.Nat.{ℕ, zero, suc, ◌+◌, ◌-◌, ◌^◌, ◌<◌, ◌≤◌}
use native.Mathlib.Nat.{mod-eq_of_lt}
use native.Mathlib.Omega.{arith}
use borrow.Author.Tests.{eqb-true, eqb-false, eq-eqb, ne_eqb, ltb-true, lt-ltb, le-ltb}
use lib.Dec.{eqb}
use Rattle.ring.specs.Ring.{after, distance, half}
use Rattle.ring.proofs.Theorems.{distance-leads}
use Rattle.wire.proofs.Words.{Below, below-append}
use Rattle.loss_list.specs.Run.{stretch, numbers_in}
use Rattle.loss_list.specs.Expand.{Item, Parsed, Sound, Faulty, keep, items, items_of, expansion, numbers_of, expanded}
use Rattle.loss_list.specs.Has.{has}
use Rattle.loss_list.proofs.Has.{has-append, numbers_of_lem}
use Rattle.loss_list.proofs.Precedes.{steps_back}
use Rattle.loss_list.proofs.Shapes.{Shape, nothing, number, range, unclosed, overflagged, backward, shape}
use Rattle.merging.specs.Merging.{in_window, all_in_window, first_outside, put, in_order, union, placed, outside}
use Rattle.merging.specs.Theorems.{Words}
use Rattle.merging.specs.Steps.{either}
use Rattle.merging.proofs.Listing.{listed, listing}

-- tests that agree on the k numbers pick the same
pub listed_same : (o : ℕ) (g h : ℕ → Bool) (at k : ℕ) → ((d : ℕ) → at ≤ d → d < at + k → g d ≡ h d) → listed o g at k ≡ listed o h at k
unfolding listed
listed_same o g h at zero same = refl
listed_same o g h at (suc k) same =
    let here : g at ≡ h at = same at (omega arith) (omega arith) in
    let later : listed o g (suc at) k ≡ listed o h (suc at) k = listed_same o g h (suc at) k (λ d l u. same d (omega arith) (omega arith)) in
    rw (here, later)

none-listed : (o at k : ℕ) → [] ≡ listed o (λ (d : ℕ). false) at k
unfolding listed
none-listed o at zero = refl
none-listed o at (suc k) = none-listed o (suc at) k

-- numbers of the window are told apart by their steps
other-number : (o d e : ℕ) → d < 2 ^ 31 → e < 2 ^ 31 → (d ≡ e → ⊥) → eqb (after 31 o d) (after 31 o e) ≡ false
other-number o d e l h n =
    ne_eqb (after 31 o d) (after 31 o e) (λ same. n (sym (steps_back o d l) ∙ ap (λ (x : ℕ). distance 31 x o) same ∙ steps_back o e h))

-- a number goes before, at or after the first of those that are there
put-before : (o d e : ℕ) (xs : List ℕ) → d < e → e < half 31 → put o (after 31 o d) (after 31 o e ∷ xs) ≡ after 31 o d ∷ after 31 o e ∷ xs
unfolding put
put-before o d e xs l h =
    rw (other-number o d e (omega arith) (omega arith) (λ z. omega arith), steps_back o d (omega arith), steps_back o e (omega arith), lt-ltb d e l)

put-here : (o d : ℕ) (xs : List ℕ) → put o (after 31 o d) (after 31 o d ∷ xs) ≡ after 31 o d ∷ xs
unfolding put
put-here o d xs = rw (eq-eqb (after 31 o d) (after 31 o d) refl)

put-later : (o d e : ℕ) (xs : List ℕ) → e < d → d < half 31 → put o (after 31 o d) (after 31 o e ∷ xs) ≡ after 31 o e ∷ put o (after 31 o d) xs
unfolding put
put-later o d e xs l h =
    rw (other-number o d e (omega arith) (omega arith) (λ z. omega arith), steps_back o d (omega arith), steps_back o e (omega arith), le-ltb d e (omega arith))

-- a number nearer to the oldest than all of them comes first
put_front : (o : ℕ) (g : ℕ → Bool) (e at k : ℕ) → e < at → at + k ≤ half 31 → put o (after 31 o e) (listed o g at k) ≡ after 31 o e ∷ listed o g at k
unfolding listed
put_front o g e at zero l h = unfold put in refl
put_front o g e at (suc k) l h = go (put_front o g e (suc at) k (omega arith) (omega arith)) (g at)
  where
    rest : List ℕ
    rest = listed o g (suc at) k

    go : put o (after 31 o e) rest ≡ after 31 o e ∷ rest → (b : Bool) → put o (after 31 o e) (cond b (after 31 o at ∷ rest) rest) ≡ after 31 o e ∷ cond b (after 31 o at ∷ rest) rest
    go later true = put-before o e at rest l (omega arith)
    go later false = later

-- picked already, or x
abbrev besides : ℕ → ℕ → (ℕ → Bool) → ℕ → Bool
besides o x g d = cond (eqb x (after 31 o d)) true (g d)

put_first : (o : ℕ) (g : ℕ → Bool) (at k : ℕ) → at + suc k ≤ half 31 → put o (after 31 o at) (listed o g at (suc k)) ≡ listed o (besides o (after 31 o at) g) at (suc k)
unfolding listed
put_first o g at k h = rw (eq-eqb (after 31 o at) (after 31 o at) refl) (go (g at) ∙ ap (λ (l : List ℕ). after 31 o at ∷ l) same)
  where
    rest : List ℕ
    rest = listed o g (suc at) k

    same : rest ≡ listed o (besides o (after 31 o at) g) (suc at) k
    same = listed_same o g (besides o (after 31 o at) g) (suc at) k (λ d l u. rw (other-number o at d (omega arith) (omega arith) (λ z. omega arith)))

    go : (b : Bool) → put o (after 31 o at) (cond b (after 31 o at ∷ rest) rest) ≡ after 31 o at ∷ rest
    go true = put-here o at rest
    go false = put_front o g at (suc at) k (omega arith) (omega arith)

put-listed : (o : ℕ) (g : ℕ → Bool) (e at k : ℕ) → at ≤ e → e < at + k → at + k ≤ half 31 → put o (after 31 o e) (listed o g at k) ≡ listed o (besides o (after 31 o e) g) at k
unfolding listed
put-listed o g e at zero l u h = absurd (omega arith)
put-listed o g e at (suc k) l u h = go (λ m. put-listed o g e (suc at) k m (omega arith) (omega arith)) (eqb e at) refl
  where
    go : (at < e → put o (after 31 o e) (listed o g (suc at) k) ≡ listed o (besides o (after 31 o e) g) (suc at) k) → (b : Bool) → eqb e at ≡ b
        → put o (after 31 o e) (listed o g at (suc k)) ≡ listed o (besides o (after 31 o e) g) at (suc k)
    go later true q = subst (λ (x : ℕ). put o (after 31 o x) (listed o g at (suc k)) ≡ listed o (besides o (after 31 o x) g) at (suc k)) (sym (eqb-true e at q)) (put_first o g at k h)
    go later false q = rw (other-number o e at (omega arith) (omega arith) n) (on (g at))
      where
        n : e ≡ at → ⊥
        n = eqb-false e at q

        rest : put o (after 31 o e) (listed o g (suc at) k) ≡ listed o (besides o (after 31 o e) g) (suc at) k
        rest = later (omega (arith, n))

        on : (c : Bool) → put o (after 31 o e) (cond c (after 31 o at ∷ listed o g (suc at) k) (listed o g (suc at) k)) ≡ cond c (after 31 o at ∷ listed o (besides o (after 31 o e) g) (suc at) k) (listed o (besides o (after 31 o e) g) (suc at) k)
        on true = put-later o e at (listed o g (suc at) k) (omega (arith, n)) (omega arith) ∙ ap (λ (l : List ℕ). after 31 o at ∷ l) rest
        on false = rest

-- a number of the ring is that many steps after the oldest
steps-to : (o x : ℕ) → x < 2 ^ 31 → after 31 o (distance 31 x o) ≡ x
steps-to o x l = distance-leads 31 x o ∙ mod-eq_of_lt l

put-number : (o x : ℕ) (g : ℕ → Bool) (k : ℕ) → x < 2 ^ 31 → distance 31 x o < k → k ≤ half 31 → put o x (listed o g 0 k) ≡ listed o (besides o x g) 0 k
put-number o x g k l near h = subst (λ (y : ℕ). put o y (listed o g 0 k) ≡ listed o (besides o y g) 0 k) (steps-to o x l) (put-listed o g (distance 31 x o) 0 k (omega arith) (omega arith) (omega arith))

window-cons : (o x : ℕ) (xs : List ℕ) → all_in_window o (x ∷ xs) ≡ true → (distance 31 x o < half 31) × (all_in_window o xs ≡ true)
unfolding all_in_window
window-cons o x xs e = go (in_window o x) refl e
  where
    go : (b : Bool) → in_window o x ≡ b → cond b (all_in_window o xs) false ≡ true → (distance 31 x o < half 31) × (all_in_window o xs ≡ true)
    go true q e = (ltb-true (distance 31 x o) (half 31) q, e)
    go false q e = absurd (let z : ◌≡◌ {A = ℕ} 0 1 = cc in omega arith)

in-order-listed : (o : ℕ) (xs : List ℕ) (k : ℕ) → k ≡ half 31 → Below (2 ^ 31) xs → all_in_window o xs ≡ true → in_order o xs ≡ listed o (λ (d : ℕ). has xs (after 31 o d)) 0 k
unfolding in_order has
in-order-listed o [] k q b e = none-listed o 0 k
in-order-listed o (x ∷ xs) k q b e =
    let w = window-cons o x xs e in
    ap (put o x) (in-order-listed o xs k q b.1 w.1) ∙ put-number o x (λ (d : ℕ). has xs (after 31 o d)) k b.0 (omega arith) (omega arith)

-- numbers of the ring and of the window, in order, are those that the list has
pub in-order-listing : (o : ℕ) (xs : List ℕ) → Below (2 ^ 31) xs → all_in_window o xs ≡ true → in_order o xs ≡ listing o (λ (d : ℕ). has xs (after 31 o d)) 0
in-order-listing o xs b e = in-order-listed o xs (half 31 - 0) refl b e

pub window-append : (o : ℕ) (xs ys : List ℕ) → all_in_window o xs ≡ true → all_in_window o ys ≡ true → all_in_window o (xs ++ ys) ≡ true
unfolding all_in_window
window-append o [] ys e f = f
window-append o (x ∷ xs) ys e f =
    let w = window-cons o x xs e in
    rw (lt-ltb (distance 31 x o) (half 31) w.0) (window-append o xs ys w.1 f)

-- a list none of whose items is outside the window stands for numbers of it
window-expansion : (o : ℕ) (is : List Item) → first_outside o is ≡ none → all_in_window o (expansion is) ≡ true
unfolding first_outside expansion
window-expansion o [] e = unfold all_in_window in refl
window-expansion o (i ∷ is) e = go (window-expansion o is) (all_in_window o (numbers_in i.run)) refl e
  where
    go : (first_outside o is ≡ none → all_in_window o (expansion is) ≡ true) → (b : Bool) → all_in_window o (numbers_in i.run) ≡ b → cond b (first_outside o is) (some i.place) ≡ none → all_in_window o (numbers_in i.run ++ expansion is) ≡ true
    go later true q e = window-append o (numbers_in i.run) (expansion is) q (later e)
    go later false q e = absurd (let z : ◌≡◌ {A = ℕ} 0 1 = cc in omega arith)

not-placed : (p : Option ℕ) → placed p ≡ none → p ≡ none
unfolding placed
not-placed none e = refl
not-placed (some p) e = absurd (let z : ◌≡◌ {A = ℕ} 0 1 = cc in omega arith)

pub window-expanded : (o : ℕ) (ws : List ℕ) → outside o ws ≡ none → all_in_window o (expanded ws) ≡ true
unfolding outside expanded
window-expanded o ws e = rw (numbers_of_lem (items 0 ws)) (window-expansion o (items_of (items 0 ws)) (not-placed (first_outside o (items_of (items 0 ws))) e))

-- words of 32 bits stand for numbers of the ring
below-stretch : (a n : ℕ) → a < 2 ^ 31 → Below (2 ^ 31) (stretch a n)
unfolding stretch
below-stretch a zero l = (l, tt)
below-stretch a (suc n) l = (l, below-stretch (after 31 a 1) n (omega arith))

below-keep : (i : Item) (ps : Parsed) → i.run.first < 2 ^ 31 → Below (2 ^ 31) (numbers_of ps) → Below (2 ^ 31) (numbers_of (keep i ps))
unfolding keep numbers_of expansion numbers_in
below-keep i (Sound is) l b = below-append (2 ^ 31) (stretch i.run.first i.run.steps) (expansion is) (below-stretch i.run.first i.run.steps l) b
below-keep i (Faulty r) l b = tt

below-numbers : {p : ℕ} {ws : List ℕ} {ps : Parsed} → Shape p ws ps → Words ws → Below (2 ^ 31) (numbers_of ps)
unfolding numbers_of expansion
below-numbers nothing h = tt
below-numbers (number {ps = ps} l s) h = below-keep _ ps l (below-numbers s (λ i. h (suc i)))
below-numbers (range {ps = ps} f l m s) h = below-keep _ ps (omega (arith, h 0)) (below-numbers s (λ i. h (suc (suc i))))
below-numbers (unclosed f) h = tt
below-numbers (overflagged f g) h = tt
below-numbers (backward f l m) h = tt

pub below-expanded : (ws : List ℕ) → Words ws → Below (2 ^ 31) (expanded ws)
unfolding expanded
below-expanded ws h = below-numbers (shape 0 ws) h

pub union-listing : (o : ℕ) (ws vs : List ℕ) → o < 2 ^ 31 → Words ws → Words vs → outside o ws ≡ none → outside o vs ≡ none → union o ws vs ≡ listing o (either o ws vs) 0
unfolding union
union-listing o ws vs l h g e f =
    in-order-listing o (expanded ws ++ expanded vs) (below-append (2 ^ 31) (expanded ws) (expanded vs) (below-expanded ws h) (below-expanded vs g)) (window-append o (expanded ws) (expanded vs) (window-expanded o ws e) (window-expanded o vs f))
    ∙ listed_same o _ (either o ws vs) 0 (half 31 - 0) (λ d m n. has-append (expanded ws) (expanded vs) (after 31 o d))
