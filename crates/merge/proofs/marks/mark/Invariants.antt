-- `mark` meets its contract: each turn marks the numbers of one item, by the laws of `Marking`. Assumes nothing.
use mathlib.Core.Path.{◌≡◌}
use Rattle.merge.proofs.Marking.{Marking}
use Rattle.merge.proofs.marks.mark.Given as goal

abbrev pub invariant-loop-span : goal.invariant-loop-span
invariant-loop-span g l =
    (l.span-iterator.cells.now ≡ l.cells) × (l.span-iterator.oldest ≡ l.oldest) × Marking l.oldest (g.C.Cell.words l.cells) l.at l.initial.seen l.seen l.span-iterator.place
