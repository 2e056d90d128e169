-- Counting a number changes nothing in the answer, and the walk that judges a list by that. Assumes nothing.
use Rattle.std.specs.Prelude.{Result, Ok, Err}
use mathlib.Core.Path.{◌≡◌, refl, sym, ap, subst, ◌∙◌}
use mathlib.Core.Bool.{Bool, true, false, cond}
use mathlib.Core.List.{List, [], ◌∷◌}
use mathlib.Core.Option.{some}
use Prim.Native.Nat.{ℕ, ◌+◌, ◌^◌, ◌<◌, ◌≤◌}
use native.Mathlib.Omega.{arith}
use borrow.Author.Tests.{le-leb, lt-leb}
use lib.Dec.{eqb}
use lib.ListN.{length, drop, get_or}
use Rattle.ring.specs.Ring.{after}
use Rattle.refusal.specs.declared.Refusal.{Refusal}
use Rattle.refusal.specs.declared.Refusal.TheVariants.{NotSequence, NotIncreasing}
use Rattle.loss_list.specs.Run.{flagged, precedes}
use Rattle.loss_list.specs.Compress.{later_fault, order_fault, runs, cost_of_runs, words, ordered}
use Rattle.loss_list.specs.Walk.{further}
use Rattle.loss_list.proofs.Places.{one_from, none_from}
use Rattle.loss_list.proofs.Runs.{words-further}
use Rattle.loss_steps.specs.Coding.{step_of, counting, stepped}
use Rattle.loss_steps.specs.declared.coding.Coding.{Coding}
use Rattle.loss_steps.specs.declared.coding.Counted.{Counted}

-- a number in the ring that comes after the last joins it or not
pub step-on : (t : Coding) (p x : ℕ) → x < 2 ^ 31 → precedes t.last x ≡ true → (joins : Bool) → eqb x (after 31 t.last 1) ≡ joins
    → step_of t p x ≡ Ok (record { coding = record { last = x; running = joins }; words = cond joins (cond t.running 0 1) 1 })
unfolding step_of
step-on t p x h b true e = simp (lt-leb (2 ^ 31) x h, b, e)
step-on t p x h b false e = simp (lt-leb (2 ^ 31) x h, b, e)

-- the number counted, or still to be counted: the answer is the same
step-carries : (t : Coding) (n p x : ℕ) (xs : List ℕ) → counting t n p (x ∷ xs) ≡ stepped (step_of t p x) n (p + 1) xs
unfolding counting stepped step_of later_fault ordered further
step-carries t n p x xs = go (flagged x) (precedes t.last x) (eqb x (after 31 t.last 1)) t.running
  where
    go : (f b e r : Bool) → ordered (cond f (some (NotSequence p)) (cond b (later_fault (p + 1) x xs) (some (NotIncreasing p)))) (n + cond e (cond r 0 1 + further x true xs) (1 + further x false xs))
        ≡ stepped (cond f (Err (NotSequence p)) (cond b (cond e (Ok (record { coding = record { last = x; running = true }; words = cond r 0 1 })) (Ok (record { coding = record { last = x; running = false }; words = 1 }))) (Err (NotIncreasing p)))) n (p + 1) xs
    go true b e r = refl
    go false false e r = refl
    go false true true true = ap (ordered (later_fault (p + 1) x xs)) (omega arith)
    go false true true false = ap (ordered (later_fault (p + 1) x xs)) (omega arith)
    go false true false r = ap (ordered (later_fault (p + 1) x xs)) (omega arith)

-- at most one word more
abbrev Adds : Result Counted Refusal → Type 0
Adds (Ok c) = c.words ≤ 1
Adds (Err r) = Unit {0}

step-adds : (t : Coding) (p x : ℕ) → Adds (step_of t p x)
unfolding step_of
step-adds t p x = go (flagged x) (precedes t.last x) (eqb x (after 31 t.last 1)) t.running
  where
    go : (f b e r : Bool) → Adds (cond f (Err (NotSequence p)) (cond b (cond e (Ok (record { coding = record { last = x; running = true }; words = cond r 0 1 })) (Ok (record { coding = record { last = x; running = false }; words = 1 }))) (Err (NotIncreasing p))))
    go true b e r = tt
    go false false e r = tt
    go false true true true = omega arith
    go false true true false = omega arith
    go false true false r = omega arith

-- the walk: what it has counted, with the numbers that are left, gives the list's answer
pub record Counting (xs : List ℕ) (t : Coding) (n i : ℕ) : Type 0 where
  pub within : i ≤ length xs
  pub bounded : n ≤ i
  pub same : counting t n i (drop i xs) ≡ ordered (order_fault xs) (words xs)

pub counting-none : (xs : List ℕ) → length xs ≡ 0 → Ok 0 ≡ ordered (order_fault xs) (words xs)
unfolding ordered order_fault words runs cost_of_runs
counting-none [] h = refl
counting-none (x ∷ xs) h = absurd (omega arith)

pub counting-fault : (xs : List ℕ) → 0 < length xs → 2 ^ 31 ≤ get_or xs 0 0 → Err (NotSequence 0) ≡ ordered (order_fault xs) (words xs)
unfolding ordered order_fault
counting-fault [] l h = absurd (omega arith)
counting-fault (x ∷ xs) l h = simp (le-leb (2 ^ 31) x h)

pub counting-start : (xs : List ℕ) → 0 < length xs → get_or xs 0 0 < 2 ^ 31 → Counting xs (record { last = get_or xs 0 0; running = false }) 1 1
unfolding order_fault counting
counting-start [] l h = absurd (omega arith)
counting-start (x ∷ xs) l h =
    record {
      within = omega arith;
      bounded = omega arith;
      same = sym (simp (lt-leb (2 ^ 31) x h) (ap (ordered (later_fault 1 x xs)) (words-further x xs)));
    }

module _ (xs : List ℕ) (t : Coding) (n i : ℕ) (k : Counting xs t n i) where
  module _ (l : i < length xs) {r : Result Counted Refusal} (s : r ≡ step_of t i (get_or xs i 0)) where
    stepped_same : stepped r n (i + 1) (drop (i + 1) xs) ≡ ordered (order_fault xs) (words xs)
    stepped_same =
        ap (λ (q : Result Counted Refusal). stepped q n (i + 1) (drop (i + 1) xs)) s
        ∙ sym (step-carries t n i (get_or xs i 0) (drop (i + 1) xs)) ∙ ap (counting t n i) (sym (one_from xs i l)) ∙ k.same

    pub counting-wrong : {f : Refusal} → r ≡ Err f → Err f ≡ ordered (order_fault xs) (words xs)
    unfolding stepped
    counting-wrong e = ap (λ (q : Result Counted Refusal). stepped q n (i + 1) (drop (i + 1) xs)) (sym e) ∙ stepped_same

    pub counting_more : {c : Counted} → r ≡ Ok c → c.words ≤ 1
    counting_more e = subst Adds (sym s ∙ e) (step-adds t i (get_or xs i 0))

    pub counting-turn : {c : Counted} → r ≡ Ok c → Counting xs c.coding (n + c.words) (i + 1)
    unfolding stepped
    counting-turn e =
        record {
          within = omega arith;
          bounded = omega (arith, k.bounded, counting_more e);
          same = ap (λ (q : Result Counted Refusal). stepped q n (i + 1) (drop (i + 1) xs)) (sym e) ∙ stepped_same;
        }

  pub counting-end : length xs ≤ i → Ok n ≡ ordered (order_fault xs) (words xs)
  unfolding counting later_fault ordered further
  counting-end l = ap Ok (omega arith) ∙ ap (counting t n i) (sym (none_from xs i l)) ∙ k.same
