-- Lists as the appendix of the Internet-Draft on sequence lists has them: RULES 3.20. Assumes nothing.
use Rattle.std.specs.Prelude.{ℕ, ◌+◌, ◌^◌, ◌<◌, List, [], ◌∷◌}
use Rattle.ring.specs.Ring.{distance, half}

-- an unflagged word is itself; a range is used only where last minus first is more than one
pub data Drafted : List ℕ → Type 0 where
  empty : Drafted []
  word : {w : ℕ} {ws : List ℕ} → w < 2 ^ 31 → Drafted ws → Drafted (w ∷ ws)
  range : (first : ℕ) {last : ℕ} {ws : List ℕ} → last < 2 ^ 31 → 1 < distance 31 last first → distance 31 last first < half 31 → Drafted ws → Drafted ((first + 2 ^ 31) ∷ last ∷ ws)
