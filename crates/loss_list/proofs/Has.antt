-- Which numbers a list has: those that stand at some place of it, of two lists together those of either, and of a stretch those that are no more steps after its
-- first number than it has. Assumes nothing.
use mathlib.Core.Path.{◌≡◌, refl, sym, ap, ◌∙◌}
use mathlib.Core.Bool.{Bool, true, false, cond}
use mathlib.Core.List.{List, [], ◌∷◌, ◌++◌}
use mathlib.Core.Logic.{◌↔◌}
use Prim.Native.Nat.{ℕ, zero, suc, ◌+◌, ◌-◌, ◌^◌, ◌<◌, ◌≤◌}
use native.Mathlib.Omega.{arith}
use borrow.Author.Tests.{eqb-true, eqb-false, eq-eqb, ltb-true, ltb-false, leb-true, leb-false, le-leb, lt-leb}
use lib.Dec.{leb, ltb, eqb}
use lib.ListN.{length, get_or}
use Rattle.ring.specs.Ring.{after, distance}
use Rattle.loss_list.specs.Run.{stretch, numbers_in}
use Rattle.loss_list.specs.Expand.{Parsed, Sound, Faulty, items_of, expansion, numbers_of}
use Rattle.loss_list.specs.Has.{has, covers}

-- a list has exactly the numbers that stand at its places
there : (xs : List ℕ) (n : ℕ) → has xs n ≡ true → (i : ℕ) × (i < length xs) × (get_or xs i 0 ≡ n)
unfolding has
there [] n e = absurd (let z : ◌≡◌ {A = ℕ} 0 1 = cc in omega arith)
there (x ∷ xs) n e = go (there xs n) (eqb x n) refl e
  where
    go : (has xs n ≡ true → (i : ℕ) × (i < length xs) × (get_or xs i 0 ≡ n)) → (b : Bool) → eqb x n ≡ b → cond b true (has xs n) ≡ true → (i : ℕ) × (i < length (x ∷ xs)) × (get_or (x ∷ xs) i 0 ≡ n)
    go later true q e = (0, omega arith, eqb-true x n q)
    go later false q e =
        let l = later e in
        (suc l.0, omega (arith, l.1), l.2)

back : (xs : List ℕ) (n i : ℕ) → i < length xs → get_or xs i 0 ≡ n → has xs n ≡ true
unfolding has
back [] n i h e = absurd (omega arith)
back (x ∷ xs) n zero h e = simp (eq-eqb x n e)
back (x ∷ xs) n (suc i) h e = go (back xs n i (omega arith) e) (eqb x n)
  where
    go : has xs n ≡ true → (b : Bool) → cond b true (has xs n) ≡ true
    go later true = refl
    go later false = later

pub has-at : (xs : List ℕ) (n : ℕ) → (has xs n ≡ true) ↔ ((i : ℕ) × (i < length xs) × (get_or xs i 0 ≡ n))
has-at xs n = (there xs n, λ a. back xs n a.0 a.1 a.2)

-- one list after another has the numbers of both
pub has-append : (xs ys : List ℕ) (n : ℕ) → has (xs ++ ys) n ≡ cond (has xs n) true (has ys n)
unfolding has
has-append [] ys n = refl
has-append (x ∷ xs) ys n = go (has-append xs ys n) (eqb x n)
  where
    go : has (xs ++ ys) n ≡ cond (has xs n) true (has ys n) → (b : Bool) → cond b true (has (xs ++ ys) n) ≡ cond (cond b true (has xs n)) true (has ys n)
    go later true = refl
    go later false = later

-- the distance of two numbers of the ring, below the wrap and past it
module _ (n a : ℕ) (l : n < 2 ^ 31) (h : a < 2 ^ 31) where
  distance-up : a ≤ n → distance 31 n a ≡ n - a
  distance-up u = omega arith

  distance-past : n < a → distance 31 n a ≡ n + 2 ^ 31 - a
  distance-past u = omega arith

-- from the next number on it is one step less
nearer : (n a : ℕ) → n < 2 ^ 31 → a < 2 ^ 31 → (a ≡ n → ⊥) → distance 31 n a ≡ suc (distance 31 n (after 31 a 1))
nearer n a l h other = go (ltb a n) refl (ltb (a + 1) (2 ^ 31)) refl
  where
    next : a + 1 < 2 ^ 31 → after 31 a 1 ≡ a + 1
    next k = omega arith

    first : 2 ^ 31 ≤ a + 1 → after 31 a 1 ≡ 0
    first k = omega arith

    step : {x y : ℕ} → after 31 a 1 ≡ y → distance 31 n a ≡ suc x → distance 31 n y ≡ x → distance 31 n a ≡ suc (distance 31 n (after 31 a 1))
    step here far near = far ∙ ap suc (sym near) ∙ ap (λ (m : ℕ). suc (distance 31 n m)) (sym here)

    go : (b : Bool) → ltb a n ≡ b → (c : Bool) → ltb (a + 1) (2 ^ 31) ≡ c → distance 31 n a ≡ suc (distance 31 n (after 31 a 1))
    go true e c f =
        let u = ltb-true a n e in
        step (next (omega arith)) (distance-up n a l h (omega arith) ∙ omega arith) (distance-up n (a + 1) l (omega arith) (omega arith))
    go false e true f =
        let u = ltb-false a n e in
        let k = ltb-true (a + 1) (2 ^ 31) f in
        step (next k) (distance-past n a l h (omega arith) ∙ omega arith) (distance-past n (a + 1) l k (omega arith))
    go false e false f =
        let u = ltb-false a n e in
        let k = ltb-false (a + 1) (2 ^ 31) f in
        step (first k) (distance-past n a l h (omega arith) ∙ omega arith) (distance-up n 0 l (omega arith) (omega arith))

leb-suc : (m k : ℕ) → leb m k ≡ leb (suc m) (suc k)
leb-suc m k = go (leb m k) refl
  where
    go : (b : Bool) → leb m k ≡ b → b ≡ leb (suc m) (suc k)
    go true e = sym (le-leb (suc m) (suc k) (omega (arith, leb-true m k e)))
    go false e = sym (lt-leb (suc m) (suc k) (omega (arith, leb-false m k e)))

-- no step leads from a number to itself alone
pub no_steps : (a n : ℕ) → a < 2 ^ 31 → n < 2 ^ 31 → eqb a n ≡ leb (distance 31 n a) 0
no_steps a n h l = go (eqb a n) refl
  where
    go : (b : Bool) → eqb a n ≡ b → b ≡ leb (distance 31 n a) 0
    go true e = sym (le-leb (distance 31 n a) 0 (omega (arith, eqb-true a n e)))
    go false e =
        let other = eqb-false a n e in
        sym (lt-leb (distance 31 n a) 0 (omega arith))

or_nothing : (b : Bool) → cond b true false ≡ b
or_nothing true = refl
or_nothing false = refl

-- a stretch has the numbers up to so many steps after its first, across the wrap too
pub has-stretch : (a steps n : ℕ) → a < 2 ^ 31 → steps < 2 ^ 31 → n < 2 ^ 31 → has (stretch a steps) n ≡ leb (distance 31 n a) steps
unfolding stretch has
has-stretch a zero n h s l = or_nothing (eqb a n) ∙ no_steps a n h l
has-stretch a (suc k) n h s l = go (has-stretch (after 31 a 1) k n (omega arith) (omega arith) l) (eqb a n) refl
  where
    go : has (stretch (after 31 a 1) k) n ≡ leb (distance 31 n (after 31 a 1)) k → (b : Bool) → eqb a n ≡ b → cond b true (has (stretch (after 31 a 1) k) n) ≡ leb (distance 31 n a) (suc k)
    go later true e = sym (le-leb (distance 31 n a) (suc k) (omega (arith, eqb-true a n e)))
    go later false e =
        later ∙ leb-suc (distance 31 n (after 31 a 1)) k ∙ ap (λ (d : ℕ). leb d (suc k)) (sym (nearer n a l h (eqb-false a n e)))

-- an item covers the numbers no more steps after its first than it has
pub covers-is : (place first steps n : ℕ) → first < 2 ^ 31 → steps < 2 ^ 31 → n < 2 ^ 31 → covers (record { place = place; run = record { first = first; steps = steps } }) n ≡ leb (distance 31 n first) steps
unfolding numbers_in
covers-is place first steps n f s l = has-stretch first steps n f s l

-- the expansion is the numbers of the items
pub numbers_of_lem : (ps : Parsed) → numbers_of ps ≡ expansion (items_of ps)
unfolding numbers_of items_of expansion
numbers_of_lem (Sound is) = refl
numbers_of_lem (Faulty r) = refl
