-- What a quick way looks for. Assumes nothing.
use Rattle.std.specs.Prelude.{ℕ, ◌^◌, ◌<◌, ◌≡◌, List, length, get_or}
use Rattle.ring.specs.Ring.{after}

-- xs is one run of more than two numbers
pub record OneRun (xs : List ℕ) : Type 0 where
  pub many : 2 < length xs
  pub first-in : get_or xs 0 0 < 2 ^ 31
  pub steps : (i : ℕ) → i < length xs → get_or xs i 0 ≡ after 31 (get_or xs 0 0) i
