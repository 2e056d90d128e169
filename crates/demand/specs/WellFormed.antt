-- Which numbers may be compressed and which words expanded: RULES 3.18. Assumes nothing.
use Rattle.std.specs.Prelude.{ℕ, ◌+◌, ◌^◌, ◌<◌, ◌≤◌, List, [], ◌∷◌, length}
use Rattle.ring.specs.Ring.{distance, half}
use Rattle.loss_list.specs.Run.{limit}
use Rattle.loss_list.specs.Compress.{words}
use Rattle.loss_list.specs.Expand.{expanded}

-- y is 1 to 2^30 - 1 steps after x
abbrev pub Follows : ℕ → ℕ → Type 0
Follows x y = (0 < distance 31 y x) × (distance 31 y x < half 31)

-- sequence numbers, each of which follows the one before
pub data Increasing : List ℕ → Type 0 where
  none : Increasing []
  one : {x : ℕ} → x < 2 ^ 31 → Increasing (x ∷ [])
  more : {x y : ℕ} {xs : List ℕ} → x < 2 ^ 31 → Follows x y → Increasing (y ∷ xs) → Increasing (x ∷ y ∷ xs)

-- what is asked of a list of numbers and of the room
pub record Compressible (xs : List ℕ) (room : ℕ) : Type 0 where
  pub numbers-within : length xs ≤ limit
  pub increasing : Increasing xs
  pub fits : words xs ≤ room

-- an unflagged word is itself; a flagged word opens a range: the next word exists, is unflagged, and follows the start
pub data WellFormed : List ℕ → Type 0 where
  empty : WellFormed []
  word : {w : ℕ} {ws : List ℕ} → w < 2 ^ 31 → WellFormed ws → WellFormed (w ∷ ws)
  range : (start : ℕ) {end : ℕ} {ws : List ℕ} → end < 2 ^ 31 → Follows start end → WellFormed ws → WellFormed ((start + 2 ^ 31) ∷ end ∷ ws)

-- what is asked of a list of words and of the room
pub record Expandable (ws : List ℕ) (room : ℕ) : Type 0 where
  pub words-within : length ws ≤ limit
  pub well-formed : WellFormed ws
  pub numbers-within : length (expanded ws) ≤ limit
  pub fits : length (expanded ws) ≤ room
