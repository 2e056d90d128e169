-- `judge_quickly` meets its contract: few gaps are no fault, and else `judge` answers. Assumes nothing.
use native.Mathlib.Omega.{arith}
use Rattle.wire.proofs.Words.{length-in_words}
use Rattle.loss_list.specs.Run.{limit}
use Rattle.loss_list.proofs.Expands.{judged-items}
use Rattle.byte_expansion.proofs.Gathering.{gathered}
use Rattle.byte_expansion.proofs.gather.judge_quickly.Goals as goal

pub returns-then-count-le-LIMIT : goal.returns-then-count-le-LIMIT
unfolding limit
returns-then-count-le-LIMIT c =
    judged-items _ c.args.list.now.within (rw (← length-in_words c.args.list.now.bytes.now, c.gather.ensures.0) (gathered _ (omega (arith, c.if-count-le-LIMIT.true, length-in_words c.args.list.now.bytes.now, c.gather.ensures.0))))
