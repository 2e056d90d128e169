-- `compress_into` meets its contract: each turn writes the words of one run, by the laws of `Compressing`. The measure is
-- what is left of the list. Assumes nothing.
use Prim.Native.Nat.{◌-◌}
use lib.ListN.{length}
use Rattle.loss_list.proofs.Compressing.{Compressing}
use Rattle.loss_compression.proofs.compress_into.Given as goal

abbrev pub invariant-runs : goal.invariant-runs
invariant-runs g l = Compressing g.C.Cell.storage (g.C.Cell.words l.list) l.initial.into l.into l.i l.out

abbrev pub decreases-runs : goal.decreases-runs
decreases-runs g l = length (g.C.Cell.words l.list) - l.i
