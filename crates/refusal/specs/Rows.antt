-- What the private function that answers a refusal's row of the table promises. Assumes nothing.
use Rattle.std.specs.Prelude.{ℕ, ◌≡◌}
use Rattle.refusal.specs.declared.Refusal.{Refusal}
use Rattle.refusal.specs.Refusal.{number_of, carried_by}

-- n is the number of r and c what r carries, said of the case that r is: an arm of a `match` knows its case, at which both compute, so that no arm asks for a proof
pub record RowOf (r : Refusal) (n c : ℕ) : Type 0 where
  pub case : Refusal
  pub known : r ≡ case
  pub number : n ≡ number_of case
  pub carried : c ≡ carried_by case
