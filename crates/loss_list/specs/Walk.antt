-- What walks over a list share, whether its words stand in a slice or as bytes, in the terms of Compress and Expand. Assumes nothing.
use Rattle.std.specs.Prelude.{ℕ, suc, ◌+◌, ◌-◌, ◌≤◌, ◌<◌, ◌≡◌, Bool, true, false, cond, List, [], ◌∷◌, eqb, length, drop, get_or}
use Rattle.ring.specs.Ring.{after}
use Rattle.loss_list.specs.Compress.{runs}
use Rattle.loss_list.specs.Expand.{Parsed, Sound, Faulty}

-- a list with no fault of form
unfoldable pub IsSound : Parsed → Type 0
IsSound (Sound is) = Unit {0}
IsSound (Faulty r) = ⊥

-- the words that xs adds to those of a list that ends with `last`, in a run that has begun already or not
unfoldable pub further : ℕ → Bool → List ℕ → ℕ
further last running [] = 0
further last running (x ∷ xs) = cond (eqb x (after 31 last 1)) (cond running 0 1 + further x true xs) (1 + further x false xs)

-- the run at place i of xs reaches up to place j
pub record RunAt (xs : List ℕ) (i j : ℕ) : Type 0 where
  pub begins : i < j
  pub within : j ≤ length xs
  pub run : runs (drop i xs) ≡ record { first = get_or xs i 0; steps = j - suc i } ∷ runs (drop j xs)
  pub last : get_or xs (j - 1) 0 ≡ after 31 (get_or xs i 0) (j - suc i)
