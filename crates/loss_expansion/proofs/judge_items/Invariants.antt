-- `judge_items` meets its contract: each turn counts one item, by the laws of `Judging`. The measure is what is left of the list.
-- Assumes nothing.
use Prim.Native.Nat.{◌-◌}
use lib.ListN.{length}
use Rattle.loss_steps.proofs.Judging.{Judging}
use Rattle.loss_expansion.proofs.judge_items.Given as goal

abbrev pub invariant-loop-i : goal.invariant-loop-i
invariant-loop-i g l = Judging (g.C.Cell.words l.list) l.tally l.i

abbrev pub decreases-loop-i : goal.decreases-loop-i
decreases-loop-i g l = length (g.C.Cell.words l.list) - l.i
