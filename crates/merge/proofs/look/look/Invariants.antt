-- `look` meets its contract: each turn looks at one item, by the laws of `Looking`. Assumes nothing.
use mathlib.Core.Path.{◌≡◌}
use Rattle.merge.proofs.Looking.{Looking}
use Rattle.merge.proofs.look.look.Given as goal

abbrev pub invariant-loop-i : goal.invariant-loop-i
invariant-loop-i g l =
    (l.i-iterator.cells.now ≡ l.cells) × (l.i-iterator.oldest ≡ l.oldest) × Looking l.oldest (g.C.Cell.words l.cells) l.ordered l.before l.i-iterator.place
