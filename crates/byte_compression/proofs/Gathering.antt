-- The walk that judges numbers with no branch: where nothing was at fault, it has counted what `Counting` counts.
-- Assumes nothing.
use mathlib.Core.Path.{◌≡◌, refl, ap}
use mathlib.Core.Bool.{Bool, true, false, cond, not}
use mathlib.Core.List.{List}
use mir.Val.{bool_byte}
use Prim.Native.Nat.{ℕ, ◌+◌, ◌-◌, ◌^◌, ◌<◌, ◌≤◌}
use native.Mathlib.Omega.{arith}
use borrow.Author.Tests.{eq-eqb, ne_eqb, eqb-true, eqb-false}
use lib.Bits.{bit_or, or_add_and, and_le_l, and_le_r}
use lib.Dec.{eqb}
use lib.ListN.{length, get_or}
use Rattle.ring.specs.Ring.{after, distance, half}
use Rattle.loss_list.specs.Run.{precedes}
use Rattle.loss_list.proofs.Precedes.{precedes-steps}
use Rattle.loss_steps.specs.Coding.{step_of}
use Rattle.loss_steps.specs.declared.coding.Coding.{Coding}
use Rattle.loss_steps.proofs.Codings.{Counting, counting-start, counting-turn, step-on}

pub record Gathering (xs : List ℕ) (last numbers steps words before i : ℕ) : Type 0 where
  pub begins : 1 ≤ i
  pub within : i ≤ length xs
  pub inside : before < 2 ^ 31
  pub counted : words ≤ i
  pub good : numbers < 2 ^ 31 → steps < half 31 - 1 → Counting xs (record { last = last; running = eqb before 0 }) words i

pub at_most_one : (b : Bool) (n : ℕ) → n ≡ cond b 1 0 → n ≤ 1
at_most_one true n e = omega arith
at_most_one false n e = omega arith

-- a bool as a number
pub byte-cond : (b : Bool) → bool_byte b ≡ cond b 1 0
byte-cond true = refl
byte-cond false = refl

pub gathering-start : (xs : List ℕ) (first : ℕ) → 0 < length xs → first ≡ get_or xs 0 0 → Gathering xs first first 0 1 1 1
gathering-start xs first l e =
    record { begins = omega arith; within = omega arith; inside = omega arith; counted = omega arith; good = λ h f. rw e (counting-start xs l (omega arith)) }

-- one more number without a fault, joined to the run or not
next-counted : (xs : List ℕ) (t : Coding) (n i this : ℕ) → Counting xs t n i → i < length xs → this ≡ get_or xs i 0 → this < 2 ^ 31 → precedes t.last this ≡ true
    → (joins : Bool) → eqb this (after 31 t.last 1) ≡ joins → (w : ℕ) → w ≡ n + cond joins (cond t.running 0 1) 1 → Counting xs (record { last = this; running = joins }) w (i + 1)
next-counted xs t n i this k l e b p joins j w q = rw q (counting-turn xs t n i k l (ap (step_of t i) e) (step-on t i this b p joins j))

-- how far a number is past the next of the one before tells both whether it joins it and whether that one is Less
module _ (last this past : ℕ) (e : past ≡ distance 31 this (after 31 last 1)) where
  pub past-less : past < half 31 - 1 → precedes last this ≡ true
  past-less h = (precedes-steps last this).1 (omega arith)

  past-joins : this < 2 ^ 31 → (b : Bool) → eqb past 0 ≡ b → eqb this (after 31 last 1) ≡ b
  past-joins h true z =
      let none = eqb-true past 0 z in
      eq-eqb this (after 31 last 1) (omega arith)
  past-joins h false z =
      let some = eqb-false past 0 z in
      ne_eqb this (after 31 last 1) (λ same. some (omega arith))

-- one word more but where this number and the one before both join
more-words : (past before words more : ℕ) → more ≡ cond (not (eqb (past + before) 0)) 1 0 → words + more ≡ words + cond (eqb past 0) (cond (eqb before 0) 0 1) 1
more-words past before words more e = go (eqb past 0) (eqb before 0) refl refl
  where
    go : (joins running : Bool) → eqb past 0 ≡ joins → eqb before 0 ≡ running → words + more ≡ words + cond joins (cond running 0 1) 1
    go true true j r =
        let none = rw (eq-eqb (past + before) 0 (omega (arith, eqb-true past 0 j, eqb-true before 0 r))) at e in
        omega arith
    go true false j r =
        let one = rw (ne_eqb (past + before) 0 (λ z. eqb-false before 0 r (omega arith))) at e in
        omega arith
    go false r j r' =
        let one = rw (ne_eqb (past + before) 0 (λ z. eqb-false past 0 j (omega arith))) at e in
        omega arith

-- no number is above the bits of it and another
le-or : (a b : ℕ) → (a ≤ bit_or a b) × (b ≤ bit_or a b)
le-or a b = (omega (arith, or_add_and a b, and_le_r a b), omega (arith, or_add_and a b, and_le_l a b))

module _ (xs : List ℕ) (last numbers steps words before i : ℕ) (g : Gathering xs last numbers steps words before i) (l : i < length xs) where
  pub gathering-turn : (this past more : ℕ) → this ≡ get_or xs i 0 → past ≡ distance 31 this (after 31 last 1) → more ≡ cond (not (eqb (past + before) 0)) 1 0
      → Gathering xs this (bit_or numbers this) (bit_or steps past) (words + more) past (i + 1)
  gathering-turn this past more e d c =
      record {
        begins = omega arith;
        within = omega arith;
        inside = omega arith;
        counted = omega (arith, g.counted, at_most_one (not (eqb (past + before) 0)) more c);
        good = λ h f.
            let number : (numbers < 2 ^ 31) × (this < 2 ^ 31) = omega (arith, le-or numbers this) in
            let near : (steps < half 31 - 1) × (past < half 31 - 1) = omega (arith, le-or steps past) in
            next-counted xs (record { last = last; running = eqb before 0 }) words i this (g.good number.0 near.0) l e number.1
            (past-less last this past d near.1)
            (eqb past 0) (past-joins last this past d number.1 (eqb past 0) refl) (words + more) (more-words past before words more c);
      }
