-- How the runs of a list grow from its front, and what they cost. Assumes nothing.
use mathlib.Core.Path.{◌≡◌, refl, ap, ◌∙◌}
use mathlib.Core.Bool.{Bool, true, false, cond}
use mathlib.Core.List.{List, [], ◌∷◌, ◌++◌}
use Prim.Native.Nat.{ℕ, zero, suc, ◌+◌, ◌-◌, ◌^◌, ◌<◌, ◌≤◌}
use native.Mathlib.Omega.{arith}
use borrow.Author.Tests.{eq-eqb, ne_eqb}
use lib.Dec.{eqb}
use lib.ListN.{length, drop, get_or}
use Rattle.ring.specs.Ring.{after}
use Rattle.loss_list.specs.Run.{Run, stretch}
use Rattle.loss_list.specs.Compress.{joined, runs, cost, cost_of_runs, words}
use Rattle.loss_list.specs.Walk.{further, RunAt}
use Rattle.loss_list.proofs.Places.{one_from, none_from}

-- the runs of a list that is not empty: the first begins with its first number, and `further` counts the rest
pub record Split (x : ℕ) (xs : List ℕ) : Type 0 where
  pub head : Run
  pub tail : List Run
  pub runs-are : runs (x ∷ xs) ≡ head ∷ tail
  pub first-is : head.first ≡ x
  pub costs : cost head.steps + cost_of_runs tail ≡ 1 + further x false xs
  pub costs-running : cost_of_runs tail ≡ further x true xs

pub split : (x : ℕ) (xs : List ℕ) → Split x xs
unfolding runs joined further cost cost_of_runs
split x [] = record { head = record { first = x; steps = 0 }; tail = []; runs-are = refl; first-is = refl; costs = refl; costs-running = refl }
split x (y ∷ ys) = go (split y ys) (eqb y (after 31 x 1)) refl
  where
    go : Split y ys → (b : Bool) → eqb y (after 31 x 1) ≡ b → Split x (y ∷ ys)
    go s true e =
        record {
          head = record { first = x; steps = suc s.head.steps };
          tail = s.tail;
          runs-are = ap (joined x) s.runs-are ∙ rw (s.first-is, e);
          first-is = refl;
          costs = rw e (omega (arith, s.costs-running));
          costs-running = rw e (omega (arith, s.costs-running));
        }
    go s false e =
        record {
          head = record { first = x; steps = 0 };
          tail = s.head ∷ s.tail;
          runs-are = ap (joined x) s.runs-are ∙ rw (s.first-is, e);
          first-is = refl;
          costs = rw e (omega (arith, s.costs));
          costs-running = rw e s.costs;
        }

-- the words of a list, counted from its first number on
pub words-further : (x : ℕ) (xs : List ℕ) → words (x ∷ xs) ≡ 1 + further x false xs
unfolding words cost_of_runs
words-further x xs = ap cost_of_runs (split x xs).runs-are ∙ (split x xs).costs

further-within : (last : ℕ) (running : Bool) (xs : List ℕ) → further last running xs ≤ length xs
unfolding further
further-within last running [] = omega arith
further-within last running (x ∷ xs) = go (eqb x (after 31 last 1)) running (further-within x true xs) (further-within x false xs)
  where
    go : (b r : Bool) → further x true xs ≤ length xs → further x false xs ≤ length xs → cond b (cond r 0 1 + further x true xs) (1 + further x false xs) ≤ length (x ∷ xs)
    go true true t f = omega arith
    go true false t f = omega arith
    go false r t f = omega arith

-- no list is written as more words than it has numbers
pub words-within : (xs : List ℕ) → words xs ≤ length xs
words-within [] = unfold words runs cost_of_runs in omega arith
words-within (x ∷ xs) = omega (arith, words-further x xs, further-within x false xs)

pub cost-most : (n : ℕ) → (0 < cost n) × (cost n ≤ 2)
unfolding cost
cost-most zero = omega arith
cost-most (suc n) = omega arith

-- a number adds at most one word
joined-cost : (x : ℕ) (rs : List Run) → cost_of_runs (joined x rs) ≤ 1 + cost_of_runs rs
unfolding joined cost_of_runs cost
joined-cost x [] = omega arith
joined-cost x (r ∷ rs) = go (eqb r.first (after 31 x 1))
  where
    go : (b : Bool) → cost_of_runs (cond b (record { first = x; steps = suc r.steps } ∷ rs) (record { first = x; steps = 0 } ∷ r ∷ rs)) ≤ 1 + cost_of_runs (r ∷ rs)
    go true = omega (arith, cost-most r.steps)
    go false = omega arith

pub words-number : (x : ℕ) (xs : List ℕ) → words (x ∷ xs) ≤ 1 + words xs
unfolding words runs
words-number x xs = joined-cost x (runs xs)

-- x and the m numbers after it by ring steps, before the runs of what follows
pub prolonged : ℕ → ℕ → List Run → List Run
prolonged x m [] = record { first = x; steps = m } ∷ []
prolonged x m (r ∷ rs) =
    cond (eqb r.first (after 31 x (suc m))) (record { first = x; steps = suc (m + r.steps) } ∷ rs) (record { first = x; steps = m } ∷ r ∷ rs)

abbrev led : ℕ → List Run → ℕ → List Run
led x rs n = record { first = x; steps = n } ∷ rs

joined-prolonged : (x : ℕ) (rs : List Run) → joined x rs ≡ prolonged x 0 rs
unfolding joined prolonged
joined-prolonged x [] = refl
joined-prolonged x (r ∷ rs) = ap (λ (n : ℕ). cond (eqb r.first (after 31 x 1)) (led x rs n) (led x (r ∷ rs) 0)) (omega arith)

prolong : (x m y : ℕ) (rs : List Run) → y ≡ after 31 x (suc m) → prolonged x m (joined y rs) ≡ prolonged x (suc m) rs
unfolding joined prolonged
prolong x m y [] h = rw (eq-eqb y (after 31 x (suc m)) h) (ap (led x []) (omega arith))
prolong x m y (r ∷ rs) h = go (eqb r.first (after 31 y 1)) refl
  where
    next : after 31 x (suc (suc m)) ≡ after 31 y 1
    next = omega arith

    go : (b : Bool) → eqb r.first (after 31 y 1) ≡ b → prolonged x m (joined y (r ∷ rs)) ≡ prolonged x (suc m) (r ∷ rs)
    go true e = rw (next, e, eq-eqb y (after 31 x (suc m)) h) (ap (led x rs) (omega arith))
    go false e = rw (next, e, eq-eqb y (after 31 x (suc m)) h) (ap (led x (r ∷ rs)) (omega arith))

-- inside the run that begins at i: j - i numbers of it are passed, the last of which is `last`
pub record Running (xs : List ℕ) (i j last : ℕ) : Type 0 where
  pub begins : i < j
  pub within : j ≤ length xs
  pub here : get_or xs (j - 1) 0 ≡ last
  pub steps : last ≡ after 31 (get_or xs i 0) (j - suc i)
  pub same : runs (drop i xs) ≡ prolonged (get_or xs i 0) (j - suc i) (runs (drop j xs))

pub running-start : (xs : List ℕ) (i : ℕ) → i < length xs → get_or xs i 0 < 2 ^ 31 → Running xs i (i + 1) (get_or xs i 0)
unfolding runs
running-start xs i h l =
    let none : i + 1 - suc i ≡ 0 = omega arith in
    record {
      begins = omega arith;
      within = omega arith;
      here = ap (λ (k : ℕ). get_or xs k 0) (omega arith);
      steps = rw none (omega arith);
      same = ap runs (one_from xs i h) ∙ joined-prolonged (get_or xs i 0) (runs (drop (i + 1) xs)) ∙ rw none;
    }

module _ (xs : List ℕ) (i j last : ℕ) (r : Running xs i j last) where
  pub running-turn : j < length xs → get_or xs j 0 ≡ after 31 last 1 → Running xs i (j + 1) (get_or xs j 0)
  unfolding runs
  running-turn h e =
      let more : j + 1 - suc i ≡ suc (j - suc i) = omega (arith, r.begins) in
      let next : get_or xs j 0 ≡ after 31 (get_or xs i 0) (suc (j - suc i)) = omega (arith, r.steps) in
      record {
        begins = omega (arith, r.begins);
        within = omega arith;
        here = ap (λ (k : ℕ). get_or xs k 0) (omega arith);
        steps = rw more next;
        same = r.same ∙ ap (λ (l : List ℕ). prolonged (get_or xs i 0) (j - suc i) (runs l)) (one_from xs j h) ∙ prolong (get_or xs i 0) (j - suc i) (get_or xs j 0) (runs (drop (j + 1) xs)) next ∙ rw more;
      }

  ends : runs (drop i xs) ≡ record { first = get_or xs i 0; steps = j - suc i } ∷ runs (drop j xs) → RunAt xs i j
  ends e = record { begins = r.begins; within = r.within; run = e; last = r.here ∙ r.steps }

  pub running-end : length xs ≤ j → RunAt xs i j
  unfolding runs prolonged
  running-end h = ends (r.same ∙ rw (none_from xs j h))

  pub running-apart : j < length xs → (get_or xs j 0 ≡ after 31 last 1 → ⊥) → RunAt xs i j
  unfolding prolonged
  running-apart h n =
      let s = split (get_or xs j 0) (drop (j + 1) xs) in
      let rest : runs (drop j xs) ≡ s.head ∷ s.tail = ap runs (one_from xs j h) ∙ s.runs-are in
      let next : after 31 (get_or xs i 0) (suc (j - suc i)) ≡ after 31 last 1 = omega (arith, r.steps) in
      ends (r.same ∙ rw rest (rw (s.first-is, next, ne_eqb (get_or xs j 0) (after 31 last 1) n)))

-- a number before the stretch that begins one step after it
joined-stretch : (a n : ℕ) (rs : List Run) → joined a (prolonged (after 31 a 1) n rs) ≡ prolonged a (suc n) rs
unfolding joined prolonged
joined-stretch a n [] = rw (eq-eqb (after 31 a 1) (after 31 a 1) refl)
joined-stretch a n (r ∷ rs) = go (eqb r.first (after 31 (after 31 a 1) (suc n))) refl
  where
    next : after 31 a (suc (suc n)) ≡ after 31 (after 31 a 1) (suc n)
    next = omega arith

    go : (b : Bool) → eqb r.first (after 31 (after 31 a 1) (suc n)) ≡ b → joined a (prolonged (after 31 a 1) n (r ∷ rs)) ≡ prolonged a (suc n) (r ∷ rs)
    go true e = rw (next, e, eq-eqb (after 31 a 1) (after 31 a 1) refl) (ap (led a rs) (omega arith))
    go false e = rw (next, e, eq-eqb (after 31 a 1) (after 31 a 1) refl)

stretch-prolonged : (a n : ℕ) (xs : List ℕ) → runs (stretch a n ++ xs) ≡ prolonged a n (runs xs)
unfolding runs stretch
stretch-prolonged a zero xs = joined-prolonged a (runs xs)
stretch-prolonged a (suc n) xs = ap (joined a) (stretch-prolonged (after 31 a 1) n xs) ∙ joined-stretch a n (runs xs)

-- a stretch that does not go on with what follows is the first run
pub runs-stretch : (a n : ℕ) (xs : List ℕ) → ((y : ℕ) (ys : List ℕ) → xs ≡ y ∷ ys → y ≡ after 31 a (suc n) → ⊥) → runs (stretch a n ++ xs) ≡ record { first = a; steps = n } ∷ runs xs
unfolding prolonged runs
runs-stretch a n [] apart = stretch-prolonged a n []
runs-stretch a n (y ∷ ys) apart =
    let s = split y ys in
    stretch-prolonged a n (y ∷ ys) ∙ rw s.runs-are (rw (s.first-is, ne_eqb y (after 31 a (suc n)) (apart y ys refl)))
