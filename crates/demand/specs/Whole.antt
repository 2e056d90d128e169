-- What makes runs the runs of a list: RULES 3.6. Assumes nothing.
use Rattle.std.specs.Prelude.{◌≡◌, List, [], ◌∷◌, ◌++◌, ℕ, ◌+◌}
use Rattle.ring.specs.Ring.{after}
use Rattle.loss_list.specs.Run.{Run, numbers_in}

-- the numbers of the runs, in order
unfoldable pub spread : List Run → List ℕ
spread [] = []
spread (r ∷ rs) = numbers_in r ++ spread rs

-- no run begins one ring step after the last number of the run before it
abbrev pub Apart : List Run → Type 0
Apart [] = Unit {0}
Apart (r ∷ []) = Unit {0}
Apart (r ∷ s ∷ rs) = (s.first ≡ after 31 r.first (r.steps + 1) → ⊥) × Apart (s ∷ rs)
