-- What the answers mean. The first item that covers a number is found exactly where there is one, and there is one exactly where the expansion has the number: it is the numbers of the items, one
-- after the other. Where it stands is seen by going through the ways in which a list is read. Assumes nothing.
use Rattle.std.specs.Prelude.{Option, Some, None, Ok}
use mathlib.Core.Path.{◌≡◌, refl, sym, ap, subst, ◌∙◌}
use mathlib.Core.Bool.{Bool, true, false, cond}
use mathlib.Core.List.{List, [], ◌∷◌, ◌++◌}
use mathlib.Core.Logic.{◌⊎◌, inl, inr}
use Prim.Native.Nat.{ℕ, suc, ◌+◌, ◌-◌, ◌%◌, ◌^◌, ◌<◌, ◌≤◌}
use native.Mathlib.Omega.{arith}
use borrow.Author.Tests.{leb-true, eq-eqb, ne_eqb}
use lib.ListN.{length, get_or}
use Rattle.ring.specs.Ring.{distance}
use Rattle.loss_list.specs.Run.{limit, numbers_in}
use Rattle.loss_list.specs.Expand.{Item, Parsed, Sound, Faulty, keep, lone, ranged, items, items_of, expansion, expanded, judgement}
use Rattle.loss_list.specs.Has.{has, covers}
use Rattle.loss_list.specs.InBytes.{judgement_bytes}
use Rattle.loss_list.proofs.Has.{has-append, covers-is, numbers_of_lem}
use Rattle.loss_list.proofs.Shapes.{Shape, nothing, number, range, unclosed, overflagged, backward, shape}
use Rattle.why_lost.specs.WhyLost.{first_covering, admitted, answered, why_lost}
use Rattle.why_lost.specs.Theorems.{Answerable, NoneCovers, FirstAt, NotLostExactly, LostExactly, LostHas, LostPlace, SaysSo, LostWord, LostInBytes}
use Rattle.why_lost.proofs.Asking.{asked-searched, admits, admits-only, asked_of}

-- the expansion is the numbers of the items, so it has a number exactly where an item is found
abbrev is_found : Option ℕ → Bool
is_found (Some p) = true
is_found None = false

has-found : (is : List Item) (n : ℕ) → has (expansion is) n ≡ is_found (first_covering is n)
unfolding has expansion first_covering
has-found [] n = refl
has-found (i ∷ is) n = has-append (numbers_in i.run) (expansion is) n ∙ go (has-found is n) (covers i n)
  where
    go : has (expansion is) n ≡ is_found (first_covering is n) → (b : Bool) → cond b true (has (expansion is) n) ≡ is_found (cond b (Some i.place) (first_covering is n))
    go later true = refl
    go later false = later

expanded-found : (ws : List ℕ) (n : ℕ) → has (expanded ws) n ≡ is_found (first_covering (items_of (items 0 ws)) n)
unfolding expanded
expanded-found ws n = ap (λ (xs : List ℕ). has xs n) (numbers_of_lem (items 0 ws)) ∙ has-found (items_of (items 0 ws)) n

not_found : (o : Option ℕ) → is_found o ≡ false → o ≡ None
not_found None e = refl
not_found (Some p) e = absurd (let z : ◌≡◌ {A = ℕ} 0 1 = cc in omega arith)

found_at : (o : Option ℕ) → is_found o ≡ true → (p : ℕ) × (o ≡ Some p)
found_at None e = absurd (let z : ◌≡◌ {A = ℕ} 0 1 = cc in omega arith)
found_at (Some p) e = (p, refl)

-- what is found is the first
first_of : (is : List Item) (n p : ℕ) → first_covering is n ≡ Some p → FirstAt is n p
unfolding first_covering
first_of [] n p e = absurd (let z : ◌≡◌ {A = ℕ} 0 1 = cc in omega arith)
first_of (i ∷ is) n p e = go (first_of is n p) (covers i n) refl e
  where
    go : (first_covering is n ≡ Some p → FirstAt is n p) → (b : Bool) → covers i n ≡ b → cond b (Some i.place) (first_covering is n) ≡ Some p → FirstAt (i ∷ is) n p
    go later true c q = record { before = []; item = i; after = is; all = refl; place = cc; covering = c; first = tt }
    go later false c q =
        let f = later q in
        record { before = i ∷ f.before; item = f.item; after = f.after; all = ap (λ (l : List Item). i ∷ l) f.all; place = f.place; covering = f.covering; first = (c, f.first) }

past-those : (before : List Item) (item : Item) (after : List Item) (n : ℕ) → NoneCovers before n → covers item n ≡ true → first_covering (before ++ item ∷ after) n ≡ Some item.place
unfolding first_covering
past-those [] item after n h c = rw c
past-those (i ∷ before) item after n h c = rw h.0 (past-those before item after n h.1 c)

first-is : (is : List Item) (n p : ℕ) → FirstAt is n p → first_covering is n ≡ Some p
first-is is n p f = ap (λ (l : List Item). first_covering l n) f.all ∙ past-those f.before f.item f.after n f.first f.covering ∙ ap Some f.place

module _ (ws : List ℕ) (n : ℕ) where
  abbrev here : Option ℕ
  here = first_covering (items_of (items 0 ws)) n

  answerable : (found : Option ℕ) → why_lost ws n ≡ Ok found → Answerable ws n × (here ≡ found)
  answerable found e =
      let a = asked_of (judgement limit ws) (items 0 ws) n found e in
      let by = admits-only (judgement limit ws) n a.1 in
      (record { count = by.0; accepted = sym by.1; number = by.2 }, a.2)

  answers : (found : Option ℕ) → Answerable ws n → found ≡ here → why_lost ws n ≡ Ok found
  answers found a e = sym (asked-searched (judgement limit ws) (items 0 ws) n (admits (judgement limit ws) n (sym a.accepted) a.number) e)

pub not-lost-exactly : NotLostExactly
not-lost-exactly ws n = (
  λ e. (let a = answerable ws n None e in (a.0, expanded-found ws n ∙ ap is_found a.1)),
  λ h. answers ws n None h.0 (sym (not_found (here ws n) (sym (expanded-found ws n) ∙ h.1))),
)

pub lost-exactly : LostExactly
lost-exactly ws n p = (
  λ e. (let a = answerable ws n (Some p) e in (a.0, first_of (items_of (items 0 ws)) n p a.1)),
  λ h. answers ws n (Some p) h.0 (sym (first-is (items_of (items 0 ws)) n p h.1)),
)

pub lost-has : LostHas
lost-has ws n = (
  λ e. (let a = answerable ws n (Some e.0) e.1 in (a.0, expanded-found ws n ∙ ap is_found a.1)),
  λ h. (let f = found_at (here ws n) (sym (expanded-found ws n) ∙ h.1) in (f.0, answers ws n (Some f.0) h.0 (sym f.1))),
)

-- the first item that covers a number is the one that is kept in front, or it is among the others
front-or-later : (i : Item) (ps : Parsed) (n q : ℕ) → first_covering (items_of (keep i ps)) n ≡ Some q → ((covers i n ≡ true) × (i.place ≡ q)) ⊎ (first_covering (items_of ps) n ≡ Some q)
unfolding keep items_of first_covering
front-or-later i (Faulty r) n q e = inr e
front-or-later i (Sound is) n q e = go (covers i n) refl e
  where
    go : (b : Bool) → covers i n ≡ b → cond b (Some i.place) (first_covering is n) ≡ Some q → ((covers i n ≡ true) × (i.place ≡ q)) ⊎ (first_covering is n ≡ Some q)
    go true c k = inl (c, cc)
    go false c k = inr k

none-covers : (n q : ℕ) → first_covering [] n ≡ Some q → ⊥
unfolding first_covering
none-covers n q e = let z : ◌≡◌ {A = ℕ} 0 1 = cc in omega arith

-- an item found in the words from place p on stands at one of them, and that word says so
record Found (ws : List ℕ) (p n q : ℕ) : Type 0 where
  on : ℕ
  at : p + on ≡ q
  within : on < length ws
  says : ((i : ℕ) → get_or ws i 0 < 2 ^ 32) → SaysSo ws on n

module _ {n : ℕ} (small : n < 2 ^ 31) where
  one_later : {w p next q : ℕ} {ws : List ℕ} → next ≡ p + 1 → Found ws next n q → Found (w ∷ ws) p n q
  one_later e f = record { on = suc f.on; at = omega (arith, f.at); within = omega (arith, f.within); says = λ h. f.says (λ i. h (suc i)) }

  number-says : {p w : ℕ} {ws : List ℕ} → w < 2 ^ 31 → covers (lone p w) n ≡ true → Found (w ∷ ws) p n p
  number-says {p} {w} l c =
      let near = leb-true (distance 31 n w) 0 (sym (covers-is p w 0 n l (omega arith) small) ∙ c) in
      record { on = 0; at = omega arith; within = omega arith; says = λ h. inl (omega arith) }

  range-says : {p w end : ℕ} {ws : List ℕ} → 2 ^ 31 ≤ w → covers (ranged p (w - 2 ^ 31) end) n ≡ true → Found (w ∷ end ∷ ws) p n p
  range-says {p} {w} {end} f c =
      record {
        on = 0;
        at = omega arith;
        within = omega arith;
        says = λ h. inr (f, leb-true _ _ (sym (covers-is p (w - 2 ^ 31) (distance 31 end (w - 2 ^ 31)) n (omega (arith, h 0)) (omega arith) small) ∙ c));
      }

  found-there : {p : ℕ} {ws : List ℕ} {ps : Parsed} (q : ℕ) → Shape p ws ps → first_covering (items_of ps) n ≡ Some q → Found ws p n q
  unfolding items_of
  found-there q nothing k = absurd (none-covers n q k)
  found-there q (number {p} {w} {ws} {ps} l s) k = go (λ k. found-there q s k) (front-or-later (lone p w) ps n q k)
    where
      go : (first_covering (items_of ps) n ≡ Some q → Found ws (p + 1) n q) → ((covers (lone p w) n ≡ true) × (p ≡ q)) ⊎ (first_covering (items_of ps) n ≡ Some q) → Found (w ∷ ws) p n q
      go later (inl h) = subst (Found (w ∷ ws) p n) h.1 (number-says l h.0)
      go later (inr h) = one_later refl (later h)
  found-there q (range {p} {w} {e} {ws} {ps} f l m s) k = go (λ k. found-there q s k) (front-or-later (ranged p (w - 2 ^ 31) e) ps n q k)
    where
      go : (first_covering (items_of ps) n ≡ Some q → Found ws (p + 2) n q) → ((covers (ranged p (w - 2 ^ 31) e) n ≡ true) × (p ≡ q)) ⊎ (first_covering (items_of ps) n ≡ Some q) → Found (w ∷ e ∷ ws) p n q
      go later (inl h) = subst (Found (w ∷ e ∷ ws) p n) h.1 (range-says f h.0)
      go later (inr h) = one_later refl (one_later (omega arith) (later h))
  found-there q (unclosed f) k = absurd (none-covers n q k)
  found-there q (overflagged f g) k = absurd (none-covers n q k)
  found-there q (backward f l m) k = absurd (none-covers n q k)

found : (ws : List ℕ) (n p : ℕ) → why_lost ws n ≡ Ok (Some p) → Found ws 0 n p
found ws n p e =
    let a = answerable ws n (Some p) e in
    found-there a.0.number p (shape 0 ws) a.1

pub lost-place : LostPlace
lost-place ws n p e = let f = found ws n p e in omega (arith, f.at, f.within)

pub lost-word : LostWord
lost-word ws h n p e =
    let f = found ws n p e in
    let here : f.on ≡ p = omega (arith, f.at) in
    subst (λ (k : ℕ). SaysSo ws k n) here (f.says h)

pub lost-in-bytes : LostInBytes
unfolding judgement_bytes admitted answered
lost-in-bytes bs n = (λ h. simp (eq-eqb (length bs % 4) 0 h), λ h. simp (ne_eqb (length bs % 4) 0 h))
