-- Which numbers a list has: RULES 3.21. Assumes nothing.
use Rattle.std.specs.Prelude.{ℕ, Bool, true, false, cond, List, [], ◌∷◌, eqb}
use Rattle.loss_list.specs.Run.{numbers_in}
use Rattle.loss_list.specs.Expand.{Item}

-- n is one of the numbers; of those that a list of words stands for, `has (expanded ws) n`
unfoldable pub has : List ℕ → ℕ → Bool
has [] n = false
has (x ∷ xs) n = cond (eqb x n) true (has xs n)

-- n is one of the numbers that an item stands for
abbrev pub covers : Item → ℕ → Bool
covers i n = has (numbers_in i.run) n
