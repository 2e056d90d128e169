-- `judge_quickly` meets its contract: nothing at fault, or what `judge` answers. Assumes nothing.
use native.Mathlib.Omega.{arith}
use Rattle.wire.proofs.Words.{length-in_words}
use Rattle.loss_list.proofs.Compresses.{ordered-judged}
use Rattle.byte_compression.proofs.gather.judge_quickly.Goals as goal

pub gather-gathered-requires : goal.gather-gathered-requires
gather-gathered-requires c = omega (arith, c.if-list-ge4.true, length-in_words c.args.list.now.bytes.now)

pub returns-then-gathered-lt-TOO_FAR : goal.returns-then-gathered-lt-TOO_FAR
returns-then-gathered-lt-TOO_FAR c =
    ordered-judged _ c.args.list.now.within (c.gather-gathered.ensures c.if-gathered-lt-FLAG.true c.if-gathered-lt-TOO_FAR.true)
