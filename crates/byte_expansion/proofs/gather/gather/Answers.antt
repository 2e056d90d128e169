-- `gather` meets its contract, by the laws of `Gathering`. Assumes nothing.
use native.Mathlib.Omega.{arith}
use Rattle.loss_list.specs.Run.{limit}
use Rattle.wire.proofs.Words.{length-in_words}
use Rattle.byte_expansion.proofs.Gathering.{gathering-start, gathering-turn, gathering-end}
use Rattle.byte_expansion.proofs.gather.gather.Goals as goal

pub loop-i-init : goal.loop-i-init
loop-i-init c = gathering-start _

pub overflow_add-sum : goal.overflow_add-sum
unfolding limit
overflow_add-sum c = omega (arith, c.loop-i.invariant.bounded, c.loop-i.invariant.within, c.gap_between-sum.ensures, c.args.list.now.within)

pub loop-i-preserved : goal.loop-i-preserved
loop-i-preserved c =
    let small = rw (c.gap_between-sum.ensures.0, c.word_at-this.ensures) at c.gap_between-sum.ensures.1 in
    rw (c.gap_between-sum.ensures.0, c.word_at-this.ensures) (gathering-turn _ _ _ _ c.loop-i.invariant (omega (arith, c.loop-i-test.true, length-in_words c.args.list.now.bytes.now)) small)

pub overflow_add-result : goal.overflow_add-result
unfolding limit
overflow_add-result c = omega (arith, c.loop-i.invariant.bounded, c.loop-i.invariant.within, c.gap_between.ensures, c.args.list.now.within)

pub returns : goal.returns
unfolding limit
returns c = (rw c.gap_between.ensures.0 (gathering-end _ _ _ _ c.loop-i.invariant (omega (arith, c.loop-i-test.false, length-in_words c.args.list.now.bytes.now))), omega (arith, c.loop-i.invariant.bounded, c.loop-i.invariant.within, c.gap_between.ensures, c.args.list.now.within))
