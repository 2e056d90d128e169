-- A listing from a step on: past what is not picked, and run by run. Assumes nothing.
use mathlib.Core.Path.{◌≡◌, refl, sym, ap, ◌∙◌}
use mathlib.Core.Bool.{Bool, true, false, cond}
use mathlib.Core.List.{List, [], ◌∷◌, ◌++◌}
use Prim.Native.Nat.{ℕ, zero, suc, ◌+◌, ◌-◌, ◌<◌, ◌≤◌}
use native.Mathlib.Omega.{arith}
use borrow.Author.Tests.{leb-true, leb-false}
use lib.Dec.{leb}
use lib.ListN.{length, length-append}
use Rattle.ring.specs.Ring.{after, half}
use Rattle.loss_list.specs.Run.{stretch}
use Rattle.loss_list.specs.Compress.{runs, coded, cost, coded_runs, cost_of_runs, compressed, words}
use Rattle.loss_list.proofs.Runs.{runs-stretch}
use Rattle.loss_list.proofs.Stretch.{length-stretch}
use Rattle.merging.proofs.Listing.{listed, listing}

-- two steps within half the ring lead to two numbers
apart-steps : (o a d : ℕ) → a < d → d < half 31 → after 31 o d ≡ after 31 o a → ⊥
apart-steps o a d l u e = omega arith

steps_on : (o a n : ℕ) → after 31 (after 31 o a) n ≡ after 31 o (a + n)
steps_on o a n = omega arith

module _ (o : ℕ) (g : ℕ → Bool) where
  skipped : (n at m b k : ℕ) → m ≡ n + k → b ≡ at + n → ((d : ℕ) → at ≤ d → d < at + n → g d ≡ false) → listed o g at m ≡ listed o g b k
  unfolding listed
  skipped zero at m b k e f h =
      let same : m ≡ k = omega arith in
      let here : b ≡ at = omega arith in
      rw (same, here)
  skipped (suc n) at m b k e f h =
      let more : m ≡ suc (n + k) = omega arith in
      ap (listed o g at) more ∙ rw (h at (omega arith) (omega arith)) (skipped n (suc at) (n + k) b k refl (omega arith) (λ d l u. h d (omega arith) (omega arith)))

  taken : (n at m b k : ℕ) → m ≡ suc n + k → b ≡ at + suc n → ((d : ℕ) → at ≤ d → d ≤ at + n → g d ≡ true) → listed o g at m ≡ stretch (after 31 o at) n ++ listed o g b k
  unfolding listed stretch
  taken zero at m b k e f h =
      let more : m ≡ suc k = omega arith in
      let next : b ≡ suc at = omega arith in
      ap (listed o g at) more ∙ rw (h at (omega arith) (omega arith), next)
  taken (suc n) at m b k e f h =
      let more : m ≡ suc (suc n + k) = omega arith in
      let next : after 31 (after 31 o at) 1 ≡ after 31 o (suc at) = omega arith in
      ap (listed o g at) more ∙ rw (h at (omega arith) (omega arith), next) (ap (λ (l : List ℕ). after 31 o at ∷ l) (taken n (suc at) (suc n + k) b k refl (omega arith) (λ d l u. h d (omega arith) (omega arith))))

  -- the first number of a listing
  heads : (k at y : ℕ) (ys : List ℕ) → listed o g at k ≡ y ∷ ys → (d : ℕ) × (at ≤ d) × (d < at + k) × (y ≡ after 31 o d)
  unfolding listed
  heads zero at y ys e = absurd (let z : ◌≡◌ {A = ℕ} 0 1 = cc in omega arith)
  heads (suc k) at y ys e = go (heads k (suc at) y ys) (g at) e
    where
      go : (listed o g (suc at) k ≡ y ∷ ys → (d : ℕ) × (suc at ≤ d) × (d < suc at + k) × (y ≡ after 31 o d)) → (b : Bool) → cond b (after 31 o at ∷ listed o g (suc at) k) (listed o g (suc at) k) ≡ y ∷ ys
          → (d : ℕ) × (at ≤ d) × (d < at + suc k) × (y ≡ after 31 o d)
      go later true q = (at, omega arith, omega arith, cc)
      go later false q = let l = later q in (l.0, omega (arith, l.1), omega (arith, l.2), l.3)

  none-listed : (d : ℕ) → listed o g d 0 ≡ []
  unfolding listed
  none-listed d = refl

  -- nothing stands past the window
  pub listing-over : (d : ℕ) → half 31 ≤ d → listing o g d ≡ []
  listing-over d h =
      let left : half 31 - d ≡ 0 = omega arith in
      ap (listed o g d) left ∙ none-listed d

  -- none is picked up to a step
  pub listing-skip : (at from : ℕ) → at ≤ from → ((d : ℕ) → at ≤ d → d < from → d < half 31 → g d ≡ false) → listing o g at ≡ listing o g from
  listing-skip at from h none = go (leb from (half 31)) refl
    where
      go : (b : Bool) → leb from (half 31) ≡ b → listing o g at ≡ listing o g from
      go true e =
          let within = leb-true from (half 31) e in
          skipped (from - at) at (half 31 - at) from (half 31 - from) (omega arith) (omega arith) (λ d l u. none d l (omega arith) (omega arith))
      go false e =
          let past = leb-false from (half 31) e in
          skipped (half 31 - at) at (half 31 - at) (at + (half 31 - at)) 0 (omega arith) refl (λ d l u. none d l (omega arith) (omega arith)) ∙ none-listed (at + (half 31 - at)) ∙ sym (listing-over from (omega arith))

  -- all are picked from one step to another, and then none up to a later one
  module _ (from to next : ℕ) (on : from ≤ to) (inside : to < half 31) (all : (d : ℕ) → from ≤ d → d ≤ to → g d ≡ true)
      (apart : to + 1 < next) (none : (d : ℕ) → to + 1 ≤ d → d < next → d < half 31 → g d ≡ false) where
    abbrev first : ℕ
    first = after 31 o from

    goes : listing o g from ≡ stretch first (to - from) ++ listing o g next
    goes =
        taken (to - from) from (half 31 - from) (to + 1) (half 31 - (to + 1)) (omega arith) (omega arith) (λ d l u. all d l (omega arith))
        ∙ ap (λ (l : List ℕ). stretch first (to - from) ++ l) (listing-skip (to + 1) next (omega arith) none)

    ends : (y : ℕ) (ys : List ℕ) → listing o g next ≡ y ∷ ys → y ≡ after 31 first (suc (to - from)) → ⊥
    ends y ys e q =
        let h = heads (half 31 - next) next y ys e in
        different h.0 (omega (arith, h.1)) (omega (arith, h.1, h.2)) (sym h.3 ∙ q)
      where
        different : (d : ℕ) → to + 1 < d → d < half 31 → after 31 o d ≡ after 31 first (suc (to - from)) → ⊥
        different d l u same =
            let last : after 31 first (suc (to - from)) ≡ after 31 o (to + 1) = steps_on o from (suc (to - from)) ∙ ap (after 31 o) (omega arith) in
            apart-steps o (to + 1) d l u (same ∙ last)

    run : runs (listing o g from) ≡ record { first = first; steps = to - from } ∷ runs (listing o g next)
    run = ap runs goes ∙ runs-stretch first (to - from) (listing o g next) ends

    pub listing-words : words (listing o g from) ≡ cost (to - from) + words (listing o g next)
    unfolding words cost_of_runs
    listing-words = ap cost_of_runs run

    pub listing-coded : compressed (listing o g from) ≡ coded first (to - from) ++ compressed (listing o g next)
    unfolding compressed coded_runs
    listing-coded = ap coded_runs run

    pub listing-length : length (listing o g from) ≡ to - from + 1 + length (listing o g next)
    listing-length = ap length goes ∙ length-append (stretch first (to - from)) (listing o g next) ∙ ap (λ (n : ℕ). n + length (listing o g next)) (length-stretch first (to - from))

  length-listed : (k at : ℕ) → length (listed o g at k) ≤ k
  unfolding listed
  length-listed zero at = omega arith
  length-listed (suc k) at = go (length-listed k (suc at)) (g at)
    where
      go : length (listed o g (suc at) k) ≤ k → (b : Bool) → length (cond b (after 31 o at ∷ listed o g (suc at) k) (listed o g (suc at) k)) ≤ suc k
      go h true = omega arith
      go h false = omega arith

  pub listing-short : (at : ℕ) → length (listing o g at) ≤ half 31
  listing-short at = omega (arith, length-listed (half 31 - at) at)
