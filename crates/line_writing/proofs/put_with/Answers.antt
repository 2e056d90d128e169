-- `put_with` meets its contract: the word and the fields so far stand at the front of the buffer. Assumes nothing.
use mathlib.Core.Path.{refl}
use native.Mathlib.Omega.{arith}
use Rattle.line_writing.proofs.Writing.{writing_start, writing-room, writing-next, writing-last, writing-end}
use Rattle.line_writing.proofs.put_with.Goals as goal

pub loop-number-init : goal.loop-number-init
loop-number-init c = writing_start _ _ _ (omega arith) c.put.ensures refl

pub slice_bounds-put_field-end : goal.slice_bounds-put_field-end
slice_bounds-put_field-end c = omega (arith, writing-room _ _ _ (omega arith) c.loop-number.invariant c.loop-number-test.true)

pub loop-number-preserved : goal.loop-number-preserved
loop-number-preserved c = writing-next _ _ _ (omega arith) c.loop-number.invariant c.loop-number-test.true (omega arith) c.put_field.ensures refl

pub slice_bounds-put_line_feed-end : goal.slice_bounds-put_line_feed-end
slice_bounds-put_line_feed-end c = omega (arith, writing-last _ _ _ (omega arith) c.loop-number.invariant c.loop-number-test.false)

pub returns : goal.returns
returns c = writing-end _ _ _ (omega arith) c.loop-number.invariant c.loop-number-test.false c.put_line_feed.ensures refl
