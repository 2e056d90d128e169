-- What stands from a place of a list on. Assumes nothing.
use mathlib.Core.Path.{◌≡◌, ap, ◌∙◌}
use mathlib.Core.List.{List, [], ◌∷◌}
use Prim.Native.Nat.{ℕ, ◌+◌, ◌<◌, ◌≤◌}
use native.Mathlib.Numerals.{add-one}
use native.Mathlib.Omega.{arith}
use lib.ListN.{length, drop, get_or, drop_of_length-le}
use lib.Seq.{drop-cons}

module _ (ws : List ℕ) (i : ℕ) where
  pub one_from : i < length ws → drop i ws ≡ get_or ws i 0 ∷ drop (i + 1) ws
  one_from h = rw (add-one, drop-cons ws i 0)

  pub none_from : length ws ≤ i → drop i ws ≡ []
  none_from h = drop_of_length-le ws h

pub two_from : (ws : List ℕ) (i : ℕ) → i + 1 < length ws → drop i ws ≡ get_or ws i 0 ∷ get_or ws (i + 1) 0 ∷ drop (i + 2) ws
two_from ws i h =
    let next : i + 1 + 1 ≡ i + 2 = omega arith in
    one_from ws i (omega arith) ∙ ap (λ (t : List ℕ). get_or ws i 0 ∷ t) (one_from ws (i + 1) h ∙ rw next)

pub last-from : (ws : List ℕ) (i : ℕ) → i < length ws → length ws ≤ i + 1 → drop i ws ≡ get_or ws i 0 ∷ []
last-from ws i h l = one_from ws i h ∙ ap (λ (t : List ℕ). get_or ws i 0 ∷ t) (none_from ws (i + 1) l)
