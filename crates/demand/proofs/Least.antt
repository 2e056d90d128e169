-- No list that stands for the same numbers is shorter: a number put before a list's runs adds at most a word, and a range
-- adds at most two. Assumes nothing.
use mathlib.Core.Path.{◌≡◌, refl}
use mathlib.Core.Bool.{Bool, true, false, cond}
use mathlib.Core.List.{List, [], ◌∷◌, ◌++◌}
use Prim.Native.Nat.{ℕ, zero, suc, ◌+◌, ◌-◌, ◌^◌, ◌≤◌}
use native.Mathlib.Omega.{arith}
use borrow.Author.Tests.{eq-eqb}
use lib.Dec.{eqb}
use lib.ListN.{length}
use Rattle.ring.specs.Ring.{after, distance}
use Rattle.loss_list.specs.Run.{Run, stretch, numbers_in}
use Rattle.loss_list.specs.Compress.{joined, runs, cost_of_runs, words}
use Rattle.loss_list.specs.Expand.{Parsed, ranged, lone, items, expansion, numbers_of, expanded}
use Rattle.loss_list.specs.Walk.{IsSound}
use Rattle.loss_list.proofs.Items.{keep-sound, keep-numbers}
use Rattle.loss_list.proofs.Runs.{cost-most, words-number}
use Rattle.loss_list.proofs.Shapes.{Shape, nothing, number, range, unclosed, overflagged, backward, shape}

-- rs begins with a run from a, and what follows that run costs at most c
record Led (a : ℕ) (rs : List Run) (c : ℕ) : Type 0 where
  reach : ℕ
  tail : List Run
  led-by : rs ≡ record { first = a; steps = reach } ∷ tail
  costs : cost_of_runs tail ≤ c

led-number : (a : ℕ) (rs : List Run) → Led a (joined a rs) (cost_of_runs rs)
unfolding joined cost_of_runs
led-number a [] = record { reach = 0; tail = []; led-by = refl; costs = omega arith }
led-number a (r ∷ rs) = go (eqb r.first (after 31 a 1))
  where
    go : (b : Bool) → Led a (cond b (record { first = a; steps = suc r.steps } ∷ rs) (record { first = a; steps = 0 } ∷ r ∷ rs)) (cost_of_runs (r ∷ rs))
    go true = record { reach = suc r.steps; tail = rs; led-by = refl; costs = omega arith }
    go false = record { reach = 0; tail = r ∷ rs; led-by = refl; costs = omega arith }

led-stretch : (a n : ℕ) (ys : List ℕ) → Led a (runs (stretch a n ++ ys)) (words ys)
unfolding stretch runs words
led-stretch a zero ys = led-number a (runs ys)
led-stretch a (suc n) ys = go (led-stretch (after 31 a 1) n ys)
  where
    go : Led (after 31 a 1) (runs (stretch (after 31 a 1) n ++ ys)) (words ys) → Led a (joined a (runs (stretch (after 31 a 1) n ++ ys))) (words ys)
    go l =
        record {
          reach = suc l.reach;
          tail = l.tail;
          led-by = unfold joined in rw (l.led-by, eq-eqb (after 31 a 1) (after 31 a 1) refl);
          costs = l.costs;
        }

words-led : (a : ℕ) (xs : List ℕ) (c : ℕ) → Led a (runs xs) c → words xs ≤ 2 + c
unfolding words cost_of_runs
words-led a xs c l = rw l.led-by (omega (arith, cost-most l.reach, l.costs))

-- a range adds at most two
words-range : (a n : ℕ) (xs : List ℕ) → words (stretch a n ++ xs) ≤ 2 + words xs
words-range a n xs = words-led a (stretch a n ++ xs) (words xs) (led-stretch a n xs)

words-least : {p : ℕ} {ws : List ℕ} {ps : Parsed} → Shape p ws ps → IsSound ps → words (numbers_of ps) ≤ length ws
unfolding IsSound numbers_of numbers_in expansion stretch
words-least nothing s = unfold words runs cost_of_runs in omega arith
words-least (number {p} {w} {ws} {ps} l r) s =
    rw (keep-numbers (lone p w) ps s) (omega (arith, words-number w (numbers_of ps), words-least r (keep-sound _ ps s)))
words-least (range {p} {w} {e} {ws} {ps} f l b r) s =
    rw (keep-numbers (ranged p (w - 2 ^ 31) e) ps s) (omega (arith, words-range (w - 2 ^ 31) (distance 31 e (w - 2 ^ 31)) (numbers_of ps), words-least r (keep-sound _ ps s)))
words-least (unclosed f) s = absurd s
words-least (overflagged f g) s = absurd s
words-least (backward f g b) s = absurd s

pub expanded-least : (ws : List ℕ) → IsSound (items 0 ws) → words (expanded ws) ≤ length ws
unfolding expanded
expanded-least ws s = words-least (shape 0 ws) s
