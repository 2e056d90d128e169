-- The checks in turn decide the answer: one law for each return of a function that makes them, and the other way the seven ways in which they end. Assumes nothing.
use Rattle.wire.specs.Lent.{within}
use Rattle.std.specs.Prelude.{Result, Ok, Err}
use mathlib.Core.Path.{◌≡◌, refl, sym, subst, ◌∙◌}
use mathlib.Core.Bool.{Bool, true, false, cond}
use mathlib.Core.List.{List}
use mathlib.Core.Option.{Option, none, some}
use Prim.Native.Nat.{ℕ, ◌^◌, ◌<◌, ◌≤◌}
use native.Mathlib.Omega.{arith}
use borrow.Author.Tests.{ltb-true, ltb-false, lt-ltb, le-ltb, leb-true, leb-false, le-leb, lt-leb}
use lib.Dec.{ltb}
use lib.ListN.{length}
use Rattle.refusal.specs.Refusal.{number_of}
use Rattle.refusal.specs.declared.Refusal.{Refusal}
use Rattle.refusal.specs.declared.Refusal.TheVariants.{TooLong, NotSequence, TooManyNumbers, NoRoom, OutsideWindow}
use Rattle.loss_list.specs.Run.{limit, flagged}
use Rattle.loss_list.specs.Compress.{words, ordered}
use Rattle.loss_list.specs.Expand.{Item, Parsed, Sound, Faulty, keep, items, items_of, total, past_limit as too_many, counted, formed, judgement}
use Rattle.loss_list.proofs.Shapes.{Shape, nothing, number, range, unclosed, overflagged, backward, shape}
use Rattle.merging.specs.Merging.{first_outside, union, ◌or_else◌, oldest_fault, own_fault, placed, outside, past_limit, barred, merging_of}

-- the answer, from what the checks found
module _ (why : Option Refusal) (ns : List ℕ) (room : ℕ) where
  pub merging-refused : {r : Refusal} → why ≡ some r → Err r ≡ merging_of why ns room
  unfolding within ordered
  merging-refused e = rw e

  module _ (e : why ≡ none) where
    pub merging-no-room : room < words ns → Err (NoRoom (words ns)) ≡ merging_of why ns room
    unfolding within ordered
    merging-no-room l = rw (e, lt-ltb room (words ns) l)

    pub merging-done : words ns ≤ room → Ok (words ns) ≡ merging_of why ns room
    unfolding within ordered
    merging-done l = rw (e, le-ltb room (words ns) l)

-- and what the answer says of them
pub data Answered (why : Option Refusal) (ns : List ℕ) (room : ℕ) : Result ℕ Refusal → Type 0 where
  barred-by : {r : Refusal} → why ≡ some r → Answered why ns room (Err r)
  no_room : why ≡ none → room < words ns → Answered why ns room (Err (NoRoom (words ns)))
  done : why ≡ none → words ns ≤ room → Answered why ns room (Ok (words ns))

module _ (why : Option Refusal) (ns : List ℕ) (room : ℕ) where
  pub answered : {r : Result ℕ Refusal} → merging_of why ns room ≡ r → Answered why ns room r
  unfolding within ordered
  answered e = subst (Answered why ns room) e (of why refl)
    where
      fitted : why ≡ none → (b : Bool) → ltb room (words ns) ≡ b → Answered why ns room (cond b (Err (NoRoom (words ns))) (Ok (words ns)))
      fitted e true l = no_room e (ltb-true room (words ns) l)
      fitted e false l = done e (ltb-false room (words ns) l)

      of : (w : Option Refusal) → why ≡ w → Answered why ns room (merging_of w ns room)
      of (some r) e = barred-by e
      of none e = fitted e (ltb room (words ns)) refl

oldest-passes : (o : ℕ) → o < 2 ^ 31 → oldest_fault o ≡ none
unfolding oldest_fault
oldest-passes o l = rw (lt-leb (2 ^ 31) o l)

own-passes : {judged : Result ℕ Refusal} {n : ℕ} → Ok n ≡ judged → own_fault judged ≡ none
unfolding own_fault
own-passes e = rw (sym e)

own-bars : {judged : Result ℕ Refusal} {r : Refusal} → Err r ≡ judged → own_fault judged ≡ some r
unfolding own_fault
own-bars e = rw (sym e)

module _ (o : ℕ) (ws : List ℕ) where
  abbrev pub outside_place : Option ℕ
  outside_place = first_outside o (items_of (items 0 ws))

  pub outside-passes : outside_place ≡ none → outside o ws ≡ none
  unfolding outside placed
  outside-passes e = rw e

  outside-bars : {p : ℕ} → outside_place ≡ some p → outside o ws ≡ some (OutsideWindow p)
  unfolding outside placed
  outside-bars e = rw e

-- each check bars where those before it pass
module _ (o : ℕ) (first second : Result ℕ Refusal) (ws vs : List ℕ) where
  pub bars-oldest : 2 ^ 31 ≤ o → barred o first second ws vs ≡ some (NotSequence 0)
  unfolding barred oldest_fault ◌or_else◌
  bars-oldest l = rw (le-leb (2 ^ 31) o l)

  module _ (l : o < 2 ^ 31) where
    pub bars-first : {r : Refusal} → Err r ≡ first → barred o first second ws vs ≡ some r
    unfolding barred ◌or_else◌
    bars-first e = rw (oldest-passes o l, own-bars e)

    module _ {m : ℕ} (a : Ok m ≡ first) where
      pub bars-second : {r : Refusal} → Err r ≡ second → barred o first second ws vs ≡ some r
      unfolding barred ◌or_else◌
      bars-second e = rw (oldest-passes o l, own-passes a, own-bars e)

      module _ {k : ℕ} (b : Ok k ≡ second) where
        together : barred o first second ws vs ≡ outside o ws or_else outside o vs or_else past_limit (union o ws vs)
        unfolding barred ◌or_else◌
        together = rw (oldest-passes o l, own-passes a, own-passes b)

        pub bars-outside-first : {p : ℕ} → outside_place o ws ≡ some p → barred o first second ws vs ≡ some (OutsideWindow p)
        unfolding ◌or_else◌
        bars-outside-first e = together ∙ rw (outside-bars o ws e)

        module _ (f : outside_place o ws ≡ none) where
          pub bars-outside-second : {p : ℕ} → outside_place o vs ≡ some p → barred o first second ws vs ≡ some (OutsideWindow p)
          unfolding ◌or_else◌
          bars-outside-second e = together ∙ rw (outside-passes o ws f, outside-bars o vs e)

          module _ (g : outside_place o vs ≡ none) where
            pub bars-limit : limit < length (union o ws vs) → barred o first second ws vs ≡ some (TooManyNumbers 0)
            unfolding ◌or_else◌ past_limit
            bars-limit h = together ∙ rw (outside-passes o ws f, outside-passes o vs g, lt-ltb limit (length (union o ws vs)) h)

            pub bars-nothing : length (union o ws vs) ≤ limit → barred o first second ws vs ≡ none
            unfolding ◌or_else◌ past_limit
            bars-nothing h = together ∙ rw (outside-passes o ws f, outside-passes o vs g, le-ltb limit (length (union o ws vs)) h)

-- the oldest is a sequence number, and each list is accepted on its own
pub record Passed (o : ℕ) (first second : Result ℕ Refusal) : Type 0 where
  pub oldest : o < 2 ^ 31
  pub first_count : ℕ
  pub first-is : Ok first_count ≡ first
  pub second-count : ℕ
  pub second_is : Ok second-count ≡ second

-- the ways in which the checks end
pub data Ends (o : ℕ) (first second : Result ℕ Refusal) (ws vs : List ℕ) : Option Refusal → Type 0 where
  at-oldest : 2 ^ 31 ≤ o → Ends o first second ws vs (some (NotSequence 0))
  at_first : o < 2 ^ 31 → {r : Refusal} → Err r ≡ first → Ends o first second ws vs (some r)
  at_second : o < 2 ^ 31 → {m : ℕ} → Ok m ≡ first → {r : Refusal} → Err r ≡ second → Ends o first second ws vs (some r)
  at-outside-first : Passed o first second → {p : ℕ} → outside_place o ws ≡ some p → Ends o first second ws vs (some (OutsideWindow p))
  at-outside-second : Passed o first second → outside_place o ws ≡ none → {p : ℕ} → outside_place o vs ≡ some p → Ends o first second ws vs (some (OutsideWindow p))
  at-limit : Passed o first second → outside_place o ws ≡ none → outside_place o vs ≡ none → limit < length (union o ws vs) → Ends o first second ws vs (some (TooManyNumbers 0))
  at-nothing : Passed o first second → outside_place o ws ≡ none → outside_place o vs ≡ none → length (union o ws vs) ≤ limit → Ends o first second ws vs none

module _ (o : ℕ) (first second : Result ℕ Refusal) (ws vs : List ℕ) where
  abbrev Ended : Type 0
  Ended = Ends o first second ws vs (barred o first second ws vs)

  ends_at : {w : Option Refusal} → barred o first second ws vs ≡ w → Ends o first second ws vs w → Ended
  ends_at e d = subst (Ends o first second ws vs) (sym e) d

  pub ends : {w : Option Refusal} → barred o first second ws vs ≡ w → Ends o first second ws vs w
  ends e = subst (Ends o first second ws vs) e (of-oldest (flagged o) refl)
    where
      of-count : Passed o first second → outside_place o ws ≡ none → outside_place o vs ≡ none → (b : Bool) → ltb limit (length (union o ws vs)) ≡ b → Ended
      of-count d f g true e =
          let h = ltb-true limit (length (union o ws vs)) e in
          ends_at (bars-limit o first second ws vs d.oldest d.first-is d.second_is f g h) (at-limit d f g h)
      of-count d f g false e =
          let h = ltb-false limit (length (union o ws vs)) e in
          ends_at (bars-nothing o first second ws vs d.oldest d.first-is d.second_is f g h) (at-nothing d f g h)

      of-windows : Passed o first second → (p : Option ℕ) → outside_place o ws ≡ p → (q : Option ℕ) → outside_place o vs ≡ q → Ended
      of-windows d (some p) f q g = ends_at (bars-outside-first o first second ws vs d.oldest d.first-is d.second_is f) (at-outside-first d f)
      of-windows d none f (some q) g = ends_at (bars-outside-second o first second ws vs d.oldest d.first-is d.second_is f g) (at-outside-second d f g)
      of-windows d none f none g = of-count d f g (ltb limit (length (union o ws vs))) refl

      of-lists : o < 2 ^ 31 → (i : Result ℕ Refusal) → i ≡ first → (j : Result ℕ Refusal) → j ≡ second → Ended
      of-lists l (Err r) a j b = ends_at (bars-first o first second ws vs l a) (at_first l a)
      of-lists l (Ok m) a (Err r) b = ends_at (bars-second o first second ws vs l a b) (at_second l a b)
      of-lists l (Ok m) a (Ok k) b =
          of-windows (record { oldest = l; first_count = m; first-is = a; second-count = k; second_is = b }) (outside_place o ws) refl (outside_place o vs) refl

      of-oldest : (b : Bool) → flagged o ≡ b → Ended
      of-oldest true e = ends_at (bars-oldest o first second ws vs (leb-true (2 ^ 31) o e)) (at-oldest (leb-true (2 ^ 31) o e))
      of-oldest false e = of-lists (leb-false (2 ^ 31) o e) first refl second refl

-- a list's own refusal is numbered below 29
abbrev Below29 : Parsed → Type 0
Below29 (Sound is) = Unit {0}
Below29 (Faulty r) = number_of r < 29

abbrev Judged29 : Result ℕ Refusal → Type 0
Judged29 (Ok n) = Unit {0}
Judged29 (Err r) = number_of r < 29

keeps : (i : Item) (ps : Parsed) → Below29 ps → Below29 (keep i ps)
unfolding keep
keeps i (Sound is) h = tt
keeps i (Faulty r) h = h

parses : {p : ℕ} {ws : List ℕ} {ps : Parsed} → Shape p ws ps → Below29 ps
parses nothing = tt
parses (number {ps = ps} l s) = keeps _ ps (parses s)
parses (range {ps = ps} f l m s) = keeps _ ps (parses s)
parses (unclosed f) = omega arith
parses (overflagged f g) = omega arith
parses (backward f l m) = omega arith

forms : (ps : Parsed) → Below29 ps → Judged29 (formed limit ps)
unfolding formed counted
forms (Faulty r) h = h
forms (Sound is) h = go (too_many limit 0 is)
  where
    go : (p : Option ℕ) → Judged29 (counted p (total is))
    go (some p) = omega arith
    go none = tt

judges : (ws : List ℕ) → Judged29 (judgement limit ws)
unfolding judgement
judges ws = go (ltb limit (length ws))
  where
    go : (b : Bool) → Judged29 (cond b (Err (TooLong limit)) (formed limit (items 0 ws)))
    go true = omega arith
    go false = forms (items 0 ws) (parses (shape 0 ws))

pub own-not-outside : (ws : List ℕ) (p : ℕ) → Err (OutsideWindow p) ≡ judgement limit ws → ⊥
own-not-outside ws p e =
    let h = subst Judged29 (sym e) (judges ws) in
    omega arith
