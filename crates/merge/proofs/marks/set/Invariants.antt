-- `set` meets its contract: each turn marks one place. Assumes nothing.
use mathlib.Core.Path.{◌≡◌}
use lib.ListN.{length}
use Rattle.merge.specs.Walk.{Sets}
use Rattle.merge.proofs.marks.set.Given as goal

abbrev pub invariant-loop-k : goal.invariant-loop-k
invariant-loop-k l = Sets l.low l.high l.initial.seen l.seen × (length l.seen ≡ length l.initial.seen)
