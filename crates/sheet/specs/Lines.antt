-- What a line says of a list, for the walks that read or write one. Assumes nothing.
use Rattle.std.specs.Prelude.{ℕ, ◌+◌, ◌^◌, ◌<◌, ◌≡◌, true, List, [], ◌∷◌, ◌++◌}
use Rattle.ring.specs.Ring.{distance}
use Rattle.loss_list.specs.Run.{precedes}
use Rattle.sheet_line.specs.declared.Line.{Line}
use Rattle.sheet_line.specs.declared.Line.TheVariants.{Gaps, One, Run, End}

-- a line that an item of an accepted list has
abbrev pub IsItem : Line → Type 0
IsItem (Gaps e l) = ⊥
IsItem (One n) = n < 2 ^ 31
IsItem (Run a b) = (a < 2 ^ 31) × ((b < 2 ^ 31) × (precedes a b ≡ true))
IsItem (End t) = ⊥

abbrev pub AllItems : List Line → Type 0
AllItems [] = Unit {0}
AllItems (l ∷ ls) = IsItem l × AllItems ls

-- the words that a line stands for, and how many numbers
abbrev pub code_of : Line → List ℕ
code_of (Gaps e l) = []
code_of (One n) = n ∷ []
code_of (Run a b) = (a + 2 ^ 31) ∷ b ∷ []
code_of (End t) = []

abbrev pub count_of : Line → ℕ
count_of (Gaps e l) = 0
count_of (One n) = 1
count_of (Run a b) = distance 31 b a + 1
count_of (End t) = 0

unfoldable pub codes : List Line → List ℕ
codes [] = []
codes (l ∷ ls) = code_of l ++ codes ls

unfoldable pub counts : List Line → ℕ
counts [] = 0
counts (l ∷ ls) = count_of l + counts ls
