-- Demand 3, sentence by sentence. The answers and the buffers here are those of the public functions' contracts:
-- `Compresses` is what compress_loss_list promises of any call, and `Expands` what decompress_loss_list promises. Assumes nothing.
use Rattle.refusal.specs.declared.Refusal.{Refusal}
use Rattle.std.specs.Prelude.{Result, Ok}
use mathlib.Core.Path.{◌≡◌, refl, sym, ap, subst, ◌∙◌}
use mathlib.Core.List.{List}
use mathlib.Core.Logic.{◌↔◌}
use Prim.Native.Nat.{ℕ, suc, ◌≤◌}
use native.Mathlib.Omega.{arith}
use lib.ListN.{length, take, drop}
use lib.Seq.{take_at}
use Rattle.loss_list.specs.Run.{limit}
use Rattle.loss_list.specs.Compress.{runs, cost, cost_of_runs, compressed, words, compressing, after_compressing, Compresses}
use Rattle.loss_list.specs.Expand.{expanding, expanded, after_expanding, Expands}
use Rattle.demand.specs.Whole.{spread, Apart}
use Rattle.demand.specs.WellFormed.{Increasing, Compressible, Expandable}
use Rattle.demand.proofs.Accepts.{accepted-sound, accepted-count, accepted-expandable, expandable-accepted, sound-well-formed, written_count, written-compressible, compressible-written}
use Rattle.loss_list.proofs.Compresses.{length-compressed}
use Rattle.demand.proofs.Least.{expanded-least}
use Rattle.demand.proofs.Longest.{apart-runs}
use Rattle.demand.proofs.Return.{spread-runs, compressed-sound, compressed-expanded}
use Rattle.loss_list.proofs.Runs.{words-within}
use Rattle.loss_list.proofs.Shapes.{shape}

-- At most 65,536 sequence numbers, each a step of 1 to 2^30 - 1 after the one before, are accepted given as many words of room as
-- there are numbers.
pub compressing-accepted : (xs : List ℕ) (room : ℕ) → length xs ≤ limit → Increasing xs → length xs ≤ room → compressing xs room ≡ Ok (words xs)
compressing-accepted xs room h i r =
    sym (compressible-written xs room (record { numbers-within = h; increasing = i; fits = omega (arith, words-within xs) }))

-- Compressing is accepted exactly for those, where the words fit.
pub compressing-accepts : (xs : List ℕ) (room : ℕ) → ((n : ℕ) × (compressing xs room ≡ Ok n)) ↔ Compressible xs room
compressing-accepts xs room = (λ a. written-compressible xs room (sym a.1), λ c. (words xs, sym (compressible-written xs room c)))

-- The count is the words written ..
pub count-written : (xs : List ℕ) (room : ℕ) {n : ℕ} → compressing xs room ≡ Ok n → n ≡ length (compressed xs)
count-written xs room e = written_count xs room (sym e) ∙ sym (length-compressed xs)

-- .. one for each lone number and two for each longer run ..
pub count-over-runs : (xs : List ℕ) (room : ℕ) {n : ℕ} → compressing xs room ≡ Ok n → n ≡ cost_of_runs (runs xs)
unfolding words
count-over-runs xs room e = written_count xs room (sym e)

pub lone-number : cost 0 ≡ 1
unfolding cost
lone-number = refl

pub longer-run : (n : ℕ) → cost (suc n) ≡ 2
unfolding cost
longer-run n = refl

-- .. where the runs hold the numbers in order, and no run goes on where the next begins.
pub runs-hold : (xs : List ℕ) → spread (runs xs) ≡ xs
runs-hold = spread-runs

pub runs-longest : (xs : List ℕ) → Apart (runs xs)
runs-longest = apart-runs

-- No list that the expander accepts for the same numbers in the same order is shorter.
pub least : (xs ws : List ℕ) (room : ℕ) {n : ℕ} → expanding ws room ≡ Ok n → expanded ws ≡ xs → length (compressed xs) ≤ length ws
least xs ws room a e =
    rw (length-compressed xs) (subst (λ (l : List ℕ). words l ≤ length ws) e (expanded-least ws (accepted-sound ws room (sym a))))

-- Expanding gives the numbers back, given room.
module _ (xs : List ℕ) (room : ℕ) {n : ℕ} (c : compressing xs room ≡ Ok n) where
  compressible : Compressible xs room
  compressible = written-compressible xs room (sym c)

  pub numbers-back : expanded (compressed xs) ≡ xs
  numbers-back = compressed-expanded xs compressible.numbers-within compressible.increasing

  pub accepted-back : (room' : ℕ) → length xs ≤ room' → expanding (compressed xs) room' ≡ Ok (length xs)
  accepted-back room' h =
      let back : length (expanded (compressed xs)) ≡ length xs = ap length numbers-back in
      sym (expandable-accepted (compressed xs) room' (record {
        words-within = omega (arith, length-compressed xs, words-within xs, compressible.numbers-within);
        well-formed = sound-well-formed (shape 0 (compressed xs)) (compressed-sound xs compressible.numbers-within compressible.increasing);
        numbers-within = omega (arith, compressible.numbers-within);
        fits = omega arith;
      })) ∙ ap Ok back

-- The expander accepts a list exactly when it has at most 65,536 words, every range is well formed, and the expansion is at
-- most 65,536 numbers and fits the room; it then answers how many they are.
pub expanding-accepts : (ws : List ℕ) (room : ℕ) → ((n : ℕ) × (expanding ws room ≡ Ok n)) ↔ Expandable ws room
expanding-accepts ws room =
    (λ a. accepted-expandable ws room (sym a.1), λ x. (length (expanded ws), sym (expandable-accepted ws room x)))

pub expanding-count : (ws : List ℕ) (room : ℕ) {n : ℕ} → expanding ws room ≡ Ok n → n ≡ length (expanded ws)
expanding-count ws room e = accepted-count ws room (sym e)

-- The same of the buffers: what an accepted call leaves in front is the words, and handed on they give the numbers back.
module _ {xs held : List ℕ} {n : ℕ} {left : List ℕ} (c : Compresses xs held (Ok n) left) where
  accepted-call : compressing xs (length held) ≡ Ok n
  accepted-call = sym c.answer

  pub words-in-front : take n left ≡ compressed xs
  unfolding after_compressing
  words-in-front = ap (take n) c.leaves ∙ take_at (compressed xs) (drop n held) n (sym (count-written xs (length held) accepted-call))

  pub handed-on : {held' left' : List ℕ} {r : Result ℕ Refusal} → length xs ≤ length held' → Expands (take n left) held' r left' → (r ≡ Ok (length xs)) × (take (length xs) left' ≡ xs)
  unfolding after_expanding
  handed-on {held'} {left'} {r} h x =
      let answer : r ≡ Ok (length xs) = x.answer ∙ ap (λ (l : List ℕ). expanding l (length held')) words-in-front ∙ accepted-back xs (length held) accepted-call (length held') h in
      let back : expanded (take n left) ≡ xs = ap expanded words-in-front ∙ numbers-back xs (length held) accepted-call in
      (answer, ap (take (length xs)) (x.leaves ∙ rw (answer, back)) ∙ take_at xs (drop (length xs) held') (length xs) refl)
