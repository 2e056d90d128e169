-- `sheet_length` meets its contract: a turn counts one item's line, by the laws of `Writing`. Assumes nothing.
use native.Mathlib.Omega.{arith}
use Rattle.loss_list.specs.Run.{limit}
use Rattle.sheet.specs.Sheet.{edition}
use Rattle.sheet_writing.proofs.Writing.{few, measuring-start, measuring-next, measuring-end}
use Rattle.sheet_writing.proofs.sheet_length.Goals as goal

pub loop-line-init : goal.loop-line-init
loop-line-init c =
    rw (c.into_iter-line-iterator.ensures.into_iter_gives, c.lines_of-line-items.ensures.starts)
    (measuring-start edition _ _ (rw c.first_line.ensures at c.length_of.ensures) c.length_of-2.ensures)

pub overflow_add-bytes-in-loop-line : goal.overflow_add-bytes-in-loop-line
unfolding edition limit
overflow_add-bytes-in-loop-line c =
    let was = rw c.in-Some.ensures.steps at c.loop-line.invariant in
    omega (arith, was.small, few edition _ c.args.judged.now.judged, c.length_of-bytes.ensures.1)

pub loop-line-preserved : goal.loop-line-preserved
loop-line-preserved c = measuring-next edition _ _ (rw c.in-Some.ensures.steps at c.loop-line.invariant) c.length_of-bytes.ensures

pub returns : goal.returns
returns c = measuring-end edition _ _ (rw c.in-None.ensures.steps.0 at c.loop-line.invariant)
