-- `run_from` meets its contract: each turn joins one piece, by the laws of `Walking`, and the next of that list begins farther. Assumes nothing.
use Prim.Native.Nat.{◌+◌, ◌-◌, ◌^◌}
use Rattle.merge.proofs.Walking.{Joining}
use Rattle.merge.proofs.lists.Looked.run_from.Given as goal

abbrev pub invariant-pieces : goal.invariant-pieces
invariant-pieces g l =
    Joining l.self.lists.oldest (g.C.Cell.words l.self.lists.first.now) (g.C.Cell.words l.self.lists.second.now) l.self.left l.self.right l.from l.end l.one l.other

abbrev pub decreases-pieces : goal.decreases-pieces
decreases-pieces g l =
    2 ^ 31 - l.one.piece.from + (2 ^ 31 - l.other.piece.from)
