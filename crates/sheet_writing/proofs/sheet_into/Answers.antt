-- `sheet_into` meets its contract: a turn writes one item's line after what stands already, by the laws of `Writing`. Assumes nothing.
use mathlib.Core.Path.{refl}
use Rattle.sheet.specs.Sheet.{edition}
use Rattle.sheet_writing.proofs.Writing.{printing-first, printing-start, printing-next, printing-last}
use Rattle.sheet_writing.proofs.sheet_into.Goals as goal

pub loop-line-init : goal.loop-line-init
loop-line-init c =
    let first = printing-first edition _ _ _ c.requires.room (rw c.first_line.ensures at c.put_line.ensures) (rw c.first_line-2.ensures at c.length_of-out.ensures.0) in
    rw (c.into_iter-line-iterator.ensures.into_iter_gives, c.lines_of-line-items.ensures.starts) (printing-start edition _ _ c.requires.room first)

pub loop-line-preserved : goal.loop-line-preserved
loop-line-preserved c =
    printing-next edition _ _ (rw c.in-Some.ensures.steps at c.loop-line.invariant) c.length_of-out-in-loop-line.ensures.0 c.put_line-in-loop-line.ensures refl

pub returns : goal.returns
returns c =
    let first = printing-first edition _ _ _ c.requires.room (rw c.first_line.ensures at c.put_line.ensures) (rw c.first_line-2.ensures at c.length_of-out.ensures.0) in
    printing-last edition _ _ (rw c.in-None.ensures.steps.0 at c.loop-line.invariant) first c.put_line-2.ensures refl
