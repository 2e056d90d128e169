-- Expanding what compressing wrote: the runs of a list hold its numbers in order, and the words of each run stand for its
-- numbers. Assumes nothing.
use mathlib.Core.Path.{◌≡◌, refl, sym, ap, ◌∙◌}
use mathlib.Core.Bool.{Bool, true, false, cond}
use mathlib.Core.List.{List, [], ◌∷◌, ◌++◌}
use Prim.Native.Nat.{ℕ, zero, suc, ◌+◌, ◌-◌, ◌^◌, ◌<◌, ◌≤◌}
use native.Mathlib.Omega.{arith}
use borrow.Author.Tests.{eqb-true}
use lib.Dec.{eqb}
use lib.ListN.{length, get_or, length-append}
use Rattle.ring.specs.Ring.{after, distance, half}
use Rattle.loss_list.specs.Run.{Run, limit, precedes, stretch, numbers_in}
use Rattle.loss_list.specs.Compress.{joined, runs, coded, coded_runs, compressed}
use Rattle.loss_list.specs.Expand.{Item, Parsed, keep, lone, items, numbers_of, expanded, expansion}
use Rattle.loss_list.specs.Walk.{IsSound}
use Rattle.demand.specs.WellFormed.{Increasing}
use Rattle.demand.proofs.Accepts.{sound-keep}
use Rattle.loss_list.proofs.Items.{keep-numbers, plain, sound-range}
use Rattle.demand.specs.Whole.{spread}
use Rattle.loss_list.proofs.Limits.{limit_is}
use Rattle.loss_list.proofs.Precedes.{precedes-steps, steps_back}
use Rattle.loss_list.proofs.Order.{all_in}
use Rattle.loss_list.proofs.Ranges.{coded-lone, coded-pair, coded-range, flag-within}
use Rattle.demand.proofs.Increasing.{increasing-faultless}
use Rattle.loss_list.proofs.Stretch.{length-stretch}
use Rattle.wire.proofs.Words.{Below, below-append}

spread-joined : (x : ℕ) (rs : List Run) → spread (joined x rs) ≡ x ∷ spread rs
unfolding spread joined numbers_in stretch
spread-joined x [] = refl
spread-joined x (r ∷ rs) = go (eqb r.first (after 31 x 1)) refl
  where
    go : (b : Bool) → eqb r.first (after 31 x 1) ≡ b → spread (cond b (record { first = x; steps = suc r.steps } ∷ rs) (record { first = x; steps = 0 } ∷ r ∷ rs)) ≡ x ∷ stretch r.first r.steps ++ spread rs
    go true e = ap (λ (a : ℕ). x ∷ stretch a r.steps ++ spread rs) (sym (eqb-true r.first (after 31 x 1) e))
    go false e = refl

pub spread-runs : (xs : List ℕ) → spread (runs xs) ≡ xs
unfolding spread runs
spread-runs [] = refl
spread-runs (x ∷ xs) = spread-joined x (runs xs) ∙ ap (λ (l : List ℕ). x ∷ l) (spread-runs xs)

-- every run begins inside the ring
abbrev Firsts : List Run → Type 0
Firsts [] = Unit {0}
Firsts (r ∷ rs) = (r.first < 2 ^ 31) × Firsts rs

firsts-joined : (x : ℕ) (rs : List Run) → x < 2 ^ 31 → Firsts rs → Firsts (joined x rs)
unfolding joined
firsts-joined x [] l h = (l, tt)
firsts-joined x (r ∷ rs) l h = go (eqb r.first (after 31 x 1))
  where
    go : (b : Bool) → Firsts (cond b (record { first = x; steps = suc r.steps } ∷ rs) (record { first = x; steps = 0 } ∷ r ∷ rs))
    go true = (l, h.1)
    go false = (l, h)

firsts-runs : (xs : List ℕ) → ((i : ℕ) → i < length xs → get_or xs i 0 < 2 ^ 31) → Firsts (runs xs)
unfolding runs
firsts-runs [] h = tt
firsts-runs (x ∷ xs) h = firsts-joined x (runs xs) (h 0 (omega arith)) (firsts-runs xs (λ i l. h (suc i) (omega arith)))

-- .. and ends before it is half around
abbrev pub InRing : List Run → Type 0
InRing [] = Unit {0}
InRing (r ∷ rs) = (r.first < 2 ^ 31) × (r.steps < half 31) × InRing rs

short-runs : (rs : List Run) → Firsts rs → length (spread rs) ≤ half 31 → InRing rs
unfolding spread numbers_in
short-runs [] f h = tt
short-runs (r ∷ rs) f h = (f.0, omega (arith, long), short-runs rs f.1 (omega (arith, long)))
  where
    long : length (spread (r ∷ rs)) ≡ r.steps + 1 + length (spread rs)
    long = length-append (stretch r.first r.steps) (spread rs) ∙ ap (λ (n : ℕ). n + length (spread rs)) (length-stretch r.first r.steps)

-- a list with no fault, and the numbers that it stands for
record Holds (ps : Parsed) (xs : List ℕ) : Type 0 where
  sound : IsSound ps
  numbers : numbers_of ps ≡ xs

holds-keep : (i : Item) {ps whole : Parsed} {xs : List ℕ} → whole ≡ keep i ps → Holds ps xs → Holds whole (numbers_in i.run ++ xs)
holds-keep i {ps} e h =
    let s = sound-keep i ps h.sound in
    record { sound = rw e s; numbers = ap numbers_of e ∙ keep-numbers i ps s ∙ ap (λ (l : List ℕ). numbers_in i.run ++ l) h.numbers }

-- the words of a run stand for its numbers, before those of what follows: a lone number, two of them, or a range
coded-holds : (p first steps : ℕ) (ws xs : List ℕ) → first < 2 ^ 31 → steps < half 31 → ((q : ℕ) → Holds (items q ws) xs) → Holds (items p (coded first steps ++ ws)) (stretch first steps ++ xs)
unfolding numbers_in stretch
coded-holds p first zero ws xs l h rest = rw (coded-lone first) (holds-keep (lone p first) (plain p first ws l) (rest (p + 1)))
coded-holds p first (suc zero) ws xs l h rest =
    let next : ℕ = after 31 first 1 in
    rw (coded-pair first) (holds-keep (lone p first) (plain p first (next ∷ ws) l) (holds-keep (lone (p + 1) next) (plain (p + 1) next ws (omega arith)) (rest (p + 1 + 1))))
coded-holds p first (suc (suc n)) ws xs l h rest =
    let steps : ℕ = suc (suc n) in
    let last : ℕ = after 31 first steps in
    let start : first + 2 ^ 31 - 2 ^ 31 ≡ first = omega arith in
    let length-is : distance 31 last first ≡ steps = steps_back first steps (omega arith) in
    let less : precedes first last ≡ true = (precedes-steps first last).1 (omega arith) in
    rw (coded-range first n)
    (holds-keep (record { place = p; run = record { first = first; steps = steps } }) (sound-range p (first + 2 ^ 31) last ws (omega arith) (omega arith) (rw start less) ∙ rw (start, length-is)) (rest (p + 2)))

coded_runs-holds : (p : ℕ) (rs : List Run) → InRing rs → Holds (items p (coded_runs rs)) (spread rs)
unfolding coded_runs spread items IsSound numbers_of expansion numbers_in
coded_runs-holds p [] h = record { sound = tt; numbers = refl }
coded_runs-holds p (r ∷ rs) h = coded-holds p r.first r.steps (coded_runs rs) (spread rs) h.0 h.1 (λ q. coded_runs-holds q rs h.2)

-- every word is one of 32 bits
small-coded : (first steps : ℕ) → first < 2 ^ 31 → Below (2 ^ 32) (coded first steps)
unfolding coded
small-coded first zero l = (omega arith, tt)
small-coded first (suc n) l = (omega (arith, flag-within (suc n)), (omega arith, tt))

small-runs : (rs : List Run) → Firsts rs → Below (2 ^ 32) (coded_runs rs)
unfolding coded_runs
small-runs [] f = tt
small-runs (r ∷ rs) f = below-append (2 ^ 32) (coded r.first r.steps) (coded_runs rs) (small-coded r.first r.steps f.0) (small-runs rs f.1)

pub compressed-small : (xs : List ℕ) → Increasing xs → Below (2 ^ 32) (compressed xs)
unfolding compressed
compressed-small xs i = small-runs (runs xs) (firsts-runs xs (all_in xs (increasing-faultless xs i)))

module _ (xs : List ℕ) (h : length xs ≤ limit) (i : Increasing xs) where
  pub runs-in-ring : InRing (runs xs)
  runs-in-ring = short-runs (runs xs) (firsts-runs xs (all_in xs (increasing-faultless xs i))) (rw (spread-runs xs) (omega (arith, limit_is)))

  returned : Holds (items 0 (coded_runs (runs xs))) (spread (runs xs))
  returned = coded_runs-holds 0 (runs xs) runs-in-ring

  pub compressed-sound : IsSound (items 0 (compressed xs))
  unfolding compressed
  compressed-sound = returned.sound

  -- the numbers come back
  pub compressed-expanded : expanded (compressed xs) ≡ xs
  unfolding compressed expanded
  compressed-expanded = returned.numbers ∙ spread-runs xs
