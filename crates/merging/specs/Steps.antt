-- Numbers by how many steps after the oldest they stand. Assumes nothing.
use Rattle.std.specs.Prelude.{ℕ, Bool, true, cond, List}
use Rattle.ring.specs.Ring.{after}
use Rattle.loss_list.specs.Expand.{expanded}
use Rattle.loss_list.specs.Has.{has}

-- whether numbers have the one so many steps after the oldest
abbrev pub picks : ℕ → List ℕ → ℕ → Bool
picks o ns d = has ns (after 31 o d)

-- .. and whether either of two lists has it
abbrev pub either : ℕ → List ℕ → List ℕ → ℕ → Bool
either o ws vs d = cond (picks o (expanded ws) d) true (picks o (expanded vs) d)
