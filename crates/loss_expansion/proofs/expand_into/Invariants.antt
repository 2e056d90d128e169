-- `expand_into` meets its contract: a turn of the outer loop writes one item, a turn of the inner one number, by the laws of
-- `Expanding`. The measures are what is left of the list and of the range. Assumes nothing.
use Prim.Native.Nat.{◌-◌}
use lib.ListN.{length}
use Rattle.loss_steps.specs.Items.{ran, HeadAt}
use Rattle.loss_steps.proofs.Expanding.{Expanding, Ranging}
use Rattle.loss_expansion.proofs.expand_into.Given as goal

abbrev pub invariant-range : goal.invariant-range
invariant-range g l = Ranging g.C.Cell.storage l.initial.into l.initial.out l.first l.steps l.into l.out l.k × HeadAt (g.C.Cell.words l.list) l.i (ran l.first l.steps 2)

abbrev pub decreases-range : goal.decreases-range
decreases-range g l = l.steps - l.k

abbrev pub invariant-items : goal.invariant-items
invariant-items g l = Expanding g.C.Cell.storage (g.C.Cell.words l.list) l.initial.into l.into l.i l.out

abbrev pub decreases-items : goal.decreases-items
decreases-items g l = length (g.C.Cell.words l.list) - l.i
