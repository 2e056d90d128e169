-- `search` meets its contract: each turn looks at one item, by the laws of `Searching`. The measure is what is left of the list. Assumes nothing.
use Prim.Native.Nat.{◌-◌}
use lib.ListN.{length}
use Rattle.why_lost.proofs.Searching.{Searching}
use Rattle.why_lost.proofs.look.search.Given as goal

abbrev pub invariant-loop-i : goal.invariant-loop-i
invariant-loop-i g l = Searching (g.C.Cell.words l.list) l.number l.found l.i

abbrev pub decreases-loop-i : goal.decreases-loop-i
decreases-loop-i g l = length (g.C.Cell.words l.list) - l.i
