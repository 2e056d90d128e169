-- Every count and every number that a refusal carries is at most the limit, so that each fits 32 bits. Assumes nothing.
use Rattle.wire.specs.Lent.{within}
use Rattle.std.specs.Prelude.{Result, Ok, Err}
use mathlib.Core.Path.{◌≡◌, refl, sym, subst}
use mathlib.Core.Bool.{Bool, true, false, cond}
use mathlib.Core.List.{List, [], ◌∷◌}
use mathlib.Core.Option.{Option, none, some}
use Prim.Native.Nat.{ℕ, ◌+◌, ◌/◌, ◌%◌, ◌^◌, ◌<◌, ◌≤◌}
use native.Mathlib.Omega.{arith}
use borrow.Author.Tests.{ltb-true, ltb-false}
use lib.Dec.{ltb, eqb}
use lib.ListN.{length}
use Rattle.refusal.specs.Refusal.{carried_by}
use Rattle.refusal.specs.declared.Refusal.{Refusal}
use Rattle.refusal.specs.declared.Refusal.TheVariants.{NotEnoughData, TooLong, NoRoom}
use Rattle.loss_list.specs.Run.{limit, flagged, precedes}
use Rattle.loss_list.specs.Expand.{Item, Parsed, Sound, Faulty, keep, items, total, past_limit, counted, formed, judgement, expanding}
use Rattle.loss_list.specs.Compress.{later_fault, order_fault, words, ordered, compressing, judgement as ordering}
use Rattle.wire.specs.Bytes.{in_words}
use Rattle.loss_list.specs.InBytes.{judgement_bytes, expanding_bytes, compressing_bytes}
use Rattle.loss_list.proofs.Limits.{limit_is, past-here, past-later, total-within}
use Rattle.loss_list.proofs.Shapes.{Shape, nothing, number, range, unclosed, overflagged, backward, shape}
use Rattle.loss_list.proofs.Runs.{words-within}

-- the items stand at places up to n
abbrev pub Placed : ℕ → List Item → Type 0
Placed n [] = Unit {0}
Placed n (i ∷ is) = (i.place ≤ n) × Placed n is

abbrev pub Parses : ℕ → Parsed → Type 0
Parses n (Sound is) = Placed n is
Parses n (Faulty r) = carried_by r ≤ n

keeps : (n : ℕ) (i : Item) (ps : Parsed) → i.place ≤ n → Parses n ps → Parses n (keep i ps)
unfolding keep
keeps n i (Sound is) h b = (h, b)
keeps n i (Faulty r) h b = b

pub parses : (n : ℕ) {p : ℕ} {ws : List ℕ} {ps : Parsed} → Shape p ws ps → p + length ws ≤ n → Parses n ps
parses n nothing h = tt
parses n (number {p} {w} {ws} {ps} l s) h = keeps n _ ps (omega arith) (parses n s (omega arith))
parses n (range {p} {w} {e} {ws} {ps} f l b s) h = keeps n _ ps (omega arith) (parses n s (omega arith))
parses n (unclosed f) h = omega arith
parses n (overflagged f g) h = omega arith
parses n (backward f g b) h = omega arith

abbrev Answers : ℕ → Result ℕ Refusal → Type 0
Answers n (Ok m) = m ≤ n
Answers n (Err r) = carried_by r ≤ n

past-placed : (n before : ℕ) (is : List Item) (q : ℕ) → Placed n is → past_limit limit before is ≡ some q → q ≤ n
past-placed n before [] q h e = absurd (unfold past_limit in let z : ◌≡◌ {A = ℕ} 0 1 = cc in omega arith)
past-placed n before (i ∷ is) q h e = go (past-placed n so_far is q h.1) (ltb limit so_far) refl
  where
    so_far : ℕ
    so_far = before + (i.run.steps + 1)

    go : (past_limit limit so_far is ≡ some q → q ≤ n) → (b : Bool) → ltb limit so_far ≡ b → q ≤ n
    go rest true l =
        let here = past-here limit before i is (ltb-true limit so_far l) in
        let same : i.place ≡ q = cc in
        omega (arith, h.0)
    go rest false l = rest (rw (past-later limit before i is (ltb-false limit so_far l)) at e)

counts : (is : List Item) → Placed limit is → Answers limit (counted (past_limit limit 0 is) (total is))
unfolding counted
counts is h = go (past_limit limit 0 is) refl
  where
    go : (o : Option ℕ) → past_limit limit 0 is ≡ o → Answers limit (counted o (total is))
    go (some q) e = past-placed limit 0 is q h e
    go none e = omega (arith, total-within limit 0 is (omega arith) e)

forms : (ps : Parsed) → Parses limit ps → Answers limit (formed limit ps)
unfolding formed
forms (Sound is) h = counts is h
forms (Faulty r) h = h

judges : (ws : List ℕ) → Answers limit (judgement limit ws)
unfolding judgement
judges ws = go (ltb limit (length ws)) refl
  where
    go : (b : Bool) → ltb limit (length ws) ≡ b → Answers limit (cond b (Err (TooLong limit)) (formed limit (items 0 ws)))
    go true l = omega arith
    go false l = forms (items 0 ws) (parses limit (shape 0 ws) (omega (arith, ltb-false limit (length ws) l)))

fits : (room : ℕ) (r : Result ℕ Refusal) → Answers limit r → Answers limit (within room r)
unfolding within
fits room (Err r) h = h
fits room (Ok n) h = go (ltb room n)
  where
    go : (b : Bool) → Answers limit (cond b (Err (NoRoom n)) (Ok n))
    go true = h
    go false = h

expanding-bounded : (ws : List ℕ) (room : ℕ) → Answers limit (expanding ws room)
expanding-bounded ws room = fits room (judgement limit ws) (judges ws)

pub numbers-limited : (ws : List ℕ) (room : ℕ) → {n : ℕ} → Ok n ≡ expanding ws room → n ≤ limit
numbers-limited ws room e = subst (Answers limit) (sym e) (expanding-bounded ws room)

judges-bytes : (bs : List ℕ) → Answers limit (judgement_bytes bs)
unfolding judgement_bytes
judges-bytes bs = go (eqb (length bs % 4) 0)
  where
    go : (b : Bool) → Answers limit (cond b (judgement limit (in_words bs)) (Err NotEnoughData))
    go true = judges (in_words bs)
    go false = omega arith

pub judgement-bytes-small : (bs : List ℕ) {r : Refusal} → Err r ≡ judgement_bytes bs → carried_by r < 2 ^ 32
judgement-bytes-small bs e =
    let h = subst (Answers limit) (sym e) (judges-bytes bs) in
    omega (arith, limit_is)

expanding-bytes-bounded : (bs : List ℕ) (room : ℕ) → Answers limit (expanding_bytes bs room)
expanding-bytes-bounded bs room = fits (room / 4) (judgement_bytes bs) (judges-bytes bs)

module _ (bs : List ℕ) (room : ℕ) where
  pub expanding-bytes-small : {r : Refusal} → Err r ≡ expanding_bytes bs room → carried_by r < 2 ^ 32
  expanding-bytes-small e =
      let h = subst (Answers limit) (sym e) (expanding-bytes-bounded bs room) in
      omega (arith, limit_is)

  pub numbers-bytes-small : {n : ℕ} → Ok n ≡ expanding_bytes bs room → n < 2 ^ 32
  numbers-bytes-small e =
      let h = subst (Answers limit) (sym e) (expanding-bytes-bounded bs room) in
      omega (arith, limit_is)

abbrev Writes : ℕ → Result ℕ Refusal → Type 0
Writes n (Ok m) = m ≤ n
Writes n (Err r) = carried_by r ≤ n

abbrev Faults : ℕ → Option Refusal → Type 0
Faults n (some r) = carried_by r ≤ n
Faults n none = Unit {0}

-- what each of the two tests of a number finds
tested : (n : ℕ) (b : Bool) (o o' : Option Refusal) → Faults n o → Faults n o' → Faults n (cond b o o')
tested n true o o' h h' = h
tested n false o o' h h' = h'

later-bounded : (n p before : ℕ) (xs : List ℕ) → p + length xs ≤ n → Faults n (later_fault p before xs)
unfolding later_fault
later-bounded n p before [] h = tt
later-bounded n p before (x ∷ xs) h = tested n (flagged x) _ _ (omega arith) (tested n (precedes before x) _ _ (later-bounded n (p + 1) x xs (omega arith)) (omega arith))

order-bounded : (n : ℕ) (xs : List ℕ) → length xs ≤ n → Faults n (order_fault xs)
unfolding order_fault
order-bounded n [] h = tt
order-bounded n (x ∷ xs) h = tested n (flagged x) _ _ (omega arith) (later-bounded n 1 x xs (omega arith))

orders : (n m : ℕ) (o : Option Refusal) → Faults n o → m ≤ n → Writes n (ordered o m)
unfolding ordered
orders n m (some r) h l = h
orders n m none h l = l

weighs : (xs : List ℕ) → Writes limit (ordering xs)
unfolding ordering
weighs xs = go (ltb limit (length xs)) refl
  where
    go : (b : Bool) → ltb limit (length xs) ≡ b → Writes limit (cond b (Err (TooLong limit)) (ordered (order_fault xs) (words xs)))
    go true l = omega arith
    go false l =
        let h = ltb-false limit (length xs) l in
        orders limit (words xs) (order_fault xs) (order-bounded limit xs h) (omega (arith, words-within xs))

writes : (room : ℕ) (r : Result ℕ Refusal) → Writes limit r → Writes limit (within room r)
unfolding within
writes room (Err r) h = h
writes room (Ok n) h = go (ltb room n)
  where
    go : (b : Bool) → Writes limit (cond b (Err (NoRoom n)) (Ok n))
    go true = h
    go false = h

compressing-bounded : (xs : List ℕ) (room : ℕ) → Writes limit (compressing xs room)
compressing-bounded xs room = writes room (ordering xs) (weighs xs)

compressing-bytes-bounded : (bs : List ℕ) (room : ℕ) → Writes limit (compressing_bytes bs room)
unfolding compressing_bytes
compressing-bytes-bounded bs room = go (eqb (length bs % 4) 0)
  where
    go : (b : Bool) → Writes limit (cond b (compressing (in_words bs) (room / 4)) (Err NotEnoughData))
    go true = compressing-bounded (in_words bs) (room / 4)
    go false = omega arith

module _ (bs : List ℕ) (room : ℕ) where
  pub compressing-bytes-small : {r : Refusal} → Err r ≡ compressing_bytes bs room → carried_by r < 2 ^ 32
  compressing-bytes-small e =
      let h = subst (Writes limit) (sym e) (compressing-bytes-bounded bs room) in
      omega (arith, limit_is)

  pub written-bytes-small : {n : ℕ} → Ok n ≡ compressing_bytes bs room → n < 2 ^ 32
  written-bytes-small e =
      let h = subst (Writes limit) (sym e) (compressing-bytes-bounded bs room) in
      omega (arith, limit_is)
