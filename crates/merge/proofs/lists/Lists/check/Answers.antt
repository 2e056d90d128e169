-- `check` meets its contract: each return is a law of `Answers` or of `Checking`. Assumes nothing.
use mathlib.Core.Path.{sym}
use Rattle.loss_list.specs.Run.{limit}
use Rattle.merging.proofs.Answers.{bars-oldest, bars-first, bars-second}
use Rattle.merge.proofs.Checking.{handed_on, admits-refused, outside-first, outside-second, ready-both, limit-passed, limit-kept}
use Rattle.merge.proofs.lists.Lists.check.Goals as goal

pub returns-then-self-ge-FLAG : goal.returns-then-self-ge-FLAG
returns-then-self-ge-FLAG g c = admits-refused _ _ _ _ (bars-oldest _ _ _ _ _ c.if-self-ge-FLAG.true)

pub returns-in_err-one : goal.returns-in_err-one
returns-in_err-one g c = rw (handed_on _ c.from_residual.ensures.1) (admits-refused _ _ _ _ (bars-first _ _ _ _ _ c.if-self-ge-FLAG.false (sym c.in_err-one.was)))

pub returns-in_err-other : goal.returns-in_err-other
returns-in_err-other g c =
    rw (handed_on _ c.from_residual-in_err-other.ensures.1)
    (admits-refused _ _ _ _ (bars-second _ _ _ _ _ c.if-self-ge-FLAG.false (sym c.in_ok-one.was) (sym c.in_err-other.was)))

pub returns-in_err-left : goal.returns-in_err-left
returns-in_err-left g c =
    rw (handed_on _ c.from_residual-in_err-left.ensures.1)
    (outside-first _ _ _ _ _ c.if-self-ge-FLAG.false c.in_ok-one.was c.in_ok-other.was _ c.in_err-left.ensures)

pub returns-in_err-right : goal.returns-in_err-right
returns-in_err-right g c =
    rw (handed_on _ c.from_residual-in_err-right.ensures.1)
    (outside-second _ _ _ _ _ c.if-self-ge-FLAG.false c.in_ok-one.was c.in_ok-other.was _ c.in_ok-left.ensures _ c.in_err-right.ensures)

pub write-all-requires-clause-ready : goal.write-all-requires-clause-ready
write-all-requires-clause-ready g c =
    ready-both _ _ _ _ _ c.if-self-ge-FLAG.false c.in_ok-one.was c.in_ok-other.was _ c.in_ok-left.ensures _ c.in_ok-right.ensures c.requires.first_judged c.requires.second_judged

pub returns-then-all-gt-LIMIT : goal.returns-then-all-gt-LIMIT
unfolding limit
returns-then-all-gt-LIMIT g c =
    limit-passed _ _ _ _ _ c.if-self-ge-FLAG.false c.in_ok-one.was c.in_ok-other.was _ c.in_ok-left.ensures _ c.in_ok-right.ensures
    (rw c.write-all.ensures.numbers at c.if-all-gt-LIMIT.true)

pub returns : goal.returns
unfolding limit
returns g c =
    limit-kept _ _ _ _ _ c.if-self-ge-FLAG.false c.in_ok-one.was c.in_ok-other.was _ c.in_ok-left.ensures _ c.in_ok-right.ensures _
    (rw c.write-all.ensures.numbers at c.if-all-gt-LIMIT.false)
    (ready-both _ _ _ _ _ c.if-self-ge-FLAG.false c.in_ok-one.was c.in_ok-other.was _ c.in_ok-left.ensures _ c.in_ok-right.ensures c.requires.first_judged c.requires.second_judged)
    c.write-all.ensures.words
