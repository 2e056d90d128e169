-- Numbers in order from the oldest rise, and what rises in the window is increasing, so that the compressor accepts it; put in order it stays as it is, and no list gains or loses
-- a number by that. Assumes nothing.
use Rattle.std.specs.Prelude.{Ok}
use mathlib.Core.Path.{◌≡◌, refl, ap, ◌∙◌}
use mathlib.Core.Bool.{Bool, true, false, cond}
use mathlib.Core.List.{List, [], ◌∷◌}
use Prim.Native.Nat.{ℕ, zero, suc, ◌+◌, ◌-◌, ◌^◌, ◌<◌, ◌≤◌}
use native.Mathlib.Omega.{arith}
use borrow.Author.Tests.{eqb-true, ne_eqb, lt-ltb}
use lib.Dec.{ltb, eqb}
use lib.ListN.{length}
use Rattle.ring.specs.Ring.{after, distance, half}
use Rattle.demand.specs.WellFormed.{Follows, Increasing, none as empty, one as single, more as longer}
use Rattle.demand.proofs.Accepts.{compressible-written}
use Rattle.loss_list.specs.Run.{limit}
use Rattle.loss_list.specs.Compress.{words, compressing}
use Rattle.loss_list.specs.Has.{has}
use Rattle.loss_list.proofs.Precedes.{steps_back}
use Rattle.merging.specs.Merging.{put, in_order}
use Rattle.merging.specs.Theorems.{Rising, none, one, more}
use Rattle.merging.proofs.Listing.{listed, listing}

-- the first number, if there is one, stands more than d steps after the oldest
abbrev Past : ℕ → ℕ → List ℕ → Type 0
Past o d [] = Unit {0}
Past o d (x ∷ xs) = d < distance 31 x o

rising-cons : (o x : ℕ) (xs : List ℕ) → x < 2 ^ 31 → distance 31 x o < half 31 → Past o (distance 31 x o) xs → Rising o xs → Rising o (x ∷ xs)
rising-cons o x [] l w p r = one l w
rising-cons o x (y ∷ ys) l w p r = more l p r

listed-past : (o : ℕ) (g : ℕ → Bool) (d at k : ℕ) → d < at → at + k ≤ half 31 → Past o d (listed o g at k)
unfolding listed
listed-past o g d at zero l h = tt
listed-past o g d at (suc k) l h = go (g at) (listed-past o g d (suc at) k (omega arith) (omega arith))
  where
    go : (b : Bool) → Past o d (listed o g (suc at) k) → Past o d (cond b (after 31 o at ∷ listed o g (suc at) k) (listed o g (suc at) k))
    go true later = omega (arith, steps_back o at (omega arith))
    go false later = later

listed-rises : (o : ℕ) (g : ℕ → Bool) (at k : ℕ) → at + k ≤ half 31 → Rising o (listed o g at k)
unfolding listed
listed-rises o g at zero h = none
listed-rises o g at (suc k) h = go (g at) (listed-rises o g (suc at) k (omega arith))
  where
    steps : distance 31 (after 31 o at) o ≡ at
    steps = steps_back o at (omega arith)

    go : (b : Bool) → Rising o (listed o g (suc at) k) → Rising o (cond b (after 31 o at ∷ listed o g (suc at) k) (listed o g (suc at) k))
    go true later = rising-cons o (after 31 o at) (listed o g (suc at) k) (omega arith) (omega (arith, steps)) (listed-past o g _ (suc at) k (omega (arith, steps)) (omega arith)) later
    go false later = later

pub listing-rises : (o : ℕ) (g : ℕ → Bool) (at : ℕ) → at ≤ half 31 → Rising o (listing o g at)
listing-rises o g at h = listed-rises o g at (half 31 - at) (omega arith)

rising-first : {o x : ℕ} {xs : List ℕ} → Rising o (x ∷ xs) → (x < 2 ^ 31) × (distance 31 x o < half 31)
rising-first (one l w) = (l, w)
rising-first (more l s r) = let later = rising-first r in (l, omega arith)

-- of two numbers of the window the one further from the oldest follows the other
follows : (o x y : ℕ) → x < 2 ^ 31 → y < 2 ^ 31 → distance 31 x o < distance 31 y o → distance 31 y o < half 31 → Follows x y
follows o x y l h s w = omega arith

pub rising-increasing : {o : ℕ} {xs : List ℕ} → Rising o xs → Increasing xs
rising-increasing none = empty
rising-increasing (one l w) = single l
rising-increasing (more {x} {y} l s r) =
    let next = rising-first r in
    longer l (follows _ x y l next.0 s next.1) (rising-increasing r)

pub rising-written : {o : ℕ} {xs : List ℕ} → Rising o xs → (room : ℕ) → length xs ≤ limit → words xs ≤ room → Ok (words xs) ≡ compressing xs room
rising-written {xs = xs} r room h f = compressible-written xs room (record { numbers-within = h; increasing = rising-increasing r; fits = f })

-- what rises is in order
pub rising-in-order : {o : ℕ} {xs : List ℕ} → Rising o xs → in_order o xs ≡ xs
unfolding in_order put
rising-in-order none = refl
rising-in-order (one l w) = refl
rising-in-order {o} (more {x} {y} {xs} l s r) =
    ap (put o x) (rising-in-order r) ∙ rw (ne_eqb x y (λ same. omega (arith, ap (λ (n : ℕ). distance 31 n o) same)), lt-ltb (distance 31 x o) (distance 31 y o) s)

-- a list has a number as well where another or the same stands in front
has-put : (o x : ℕ) (xs : List ℕ) (n : ℕ) → has (put o x xs) n ≡ cond (eqb x n) true (has xs n)
unfolding put has
has-put o x [] n = refl
has-put o x (y ∷ ys) n = go (has-put o x ys n) (eqb x y) refl (ltb (distance 31 x o) (distance 31 y o))
  where
    again : (b c : Bool) → cond b true c ≡ cond b true (cond b true c)
    again true c = refl
    again false c = refl

    swapped : (b c d : Bool) → cond b true (cond c true d) ≡ cond c true (cond b true d)
    swapped true true d = refl
    swapped true false d = refl
    swapped false true d = refl
    swapped false false d = refl

    go : has (put o x ys) n ≡ cond (eqb x n) true (has ys n) → (b : Bool) → eqb x y ≡ b → (c : Bool)
        → has (cond b (y ∷ ys) (cond c (x ∷ y ∷ ys) (y ∷ put o x ys))) n ≡ cond (eqb x n) true (cond (eqb y n) true (has ys n))
    go later true e c = rw (eqb-true x y e) (again (eqb y n) (has ys n))
    go later false e true = refl
    go later false e false = rw later (swapped (eqb y n) (eqb x n) (has ys n))

pub has-in-order : (o : ℕ) (xs : List ℕ) (n : ℕ) → has (in_order o xs) n ≡ has xs n
unfolding in_order has
has-in-order o [] n = refl
has-in-order o (x ∷ xs) n = has-put o x (in_order o xs) n ∙ ap (λ (b : Bool). cond (eqb x n) true b) (has-in-order o xs n)
