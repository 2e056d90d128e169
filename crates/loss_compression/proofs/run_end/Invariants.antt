-- `run_end` meets its contract: each turn passes one more number of the run, by the laws of `Runs`. Assumes nothing.
use Rattle.loss_list.proofs.Runs.{Running}
use Rattle.loss_compression.proofs.run_end.Given as goal

abbrev pub invariant-loop-j : goal.invariant-loop-j
invariant-loop-j g l = Running (g.C.Cell.words l.list) l.i l.j l.last
