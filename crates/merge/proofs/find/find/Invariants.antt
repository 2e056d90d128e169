-- `find` meets its contract: each turn looks at one item, by the laws of `Finding`. Assumes nothing.
use mathlib.Core.Path.{◌≡◌}
use Rattle.merge.proofs.Finding.{Finding}
use Rattle.merge.proofs.find.find.Given as goal

abbrev pub invariant-loop-i : goal.invariant-loop-i
invariant-loop-i g l =
    (l.i-iterator.cells.now ≡ l.cells) × (l.i-iterator.oldest ≡ l.oldest) × Finding l.oldest (g.C.Cell.words l.cells) l.at l.side l.near l.i-iterator.place
