-- What the quick ways gather, and what they write. Assumes nothing.
use Rattle.std.specs.Prelude.{ℕ, ◌+◌, ◌-◌, ◌*◌, ◌/◌, ◌^◌, cond, List, [], ◌∷◌}
use Rattle.ring.specs.Ring.{after, distance}
use Rattle.loss_list.specs.Run.{flagged}

-- a word without its bit 31
abbrev pub cleared : ℕ → ℕ
cleared w = cond (flagged w) (w - 2 ^ 31) w

unfoldable pub all_cleared : List ℕ → List ℕ
all_cleared [] = []
all_cleared (w ∷ ws) = cleared w ∷ all_cleared ws

-- how many numbers w closes a range with that begins with b, beside the two; far too many where it closes none
unfoldable pub gap : ℕ → ℕ → ℕ
gap b w = cond (flagged b) (distance 31 w (after 31 b 1) + w / 2 ^ 31 * 2 ^ 31) 0

-- the gaps of a list that comes after b; its end closes no range
unfoldable pub gaps : ℕ → List ℕ → ℕ
gaps b [] = gap b (2 ^ 31)
gaps b (w ∷ ws) = gap b w + gaps w ws
