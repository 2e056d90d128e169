-- `write` meets its contract: each turn writes the words of one run, by the laws of `Writing`. The measure is what is left of the ring. Assumes nothing.
use Prim.Native.Nat.{◌-◌, ◌^◌}
use Rattle.merge.proofs.Writing.{Writing}
use Rattle.merge.proofs.lists.Looked.write.Given as goal

abbrev pub invariant-runs : goal.invariant-runs
invariant-runs g l =
    Writing l.self.lists.oldest (g.C.Cell.words l.self.lists.first.now) (g.C.Cell.words l.self.lists.second.now) l.self.left l.self.right g.C.Cell.storage l.initial.into l.into l.walk l.numbers l.out

abbrev pub decreases-runs : goal.decreases-runs
decreases-runs g l = 2 ^ 31 - l.walk.from
