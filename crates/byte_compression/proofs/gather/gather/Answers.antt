-- `gather` meets its contract: each turn counts one number, by the laws of `GatheringNumbers`. The measure is what is left of
-- the list. Assumes nothing.
use mathlib.Core.Path.{ap, ◌∙◌}
use native.Mathlib.Omega.{arith}
use Rattle.ring.specs.Ring.{distance}
use Rattle.wire.proofs.Words.{length-in_words}
use Rattle.loss_list.proofs.Limits.{limit_is}
use Rattle.loss_steps.proofs.Codings.{counting-end}
use Rattle.byte_compression.proofs.Gathering.{at_most_one, byte-cond, gathering-start, gathering-turn}
use Rattle.byte_compression.proofs.gather.gather.Goals as goal

pub loop-i-init : goal.loop-i-init
loop-i-init c = gathering-start _ _ (omega (arith, c.requires)) c.word_at-last.ensures

pub overflow_add-words : goal.overflow_add-words
overflow_add-words c = record { fits = omega (arith, limit_is, c.loop-i.invariant.counted, at_most_one _ _ (c.from-words.ensures ∙ byte-cond _), c.args.list.now.within, c.requires) }

pub loop-i-preserved : goal.loop-i-preserved
loop-i-preserved c =
    let past = c.distance-past.ensures ∙ ap (distance 31 c.word_at-this.result) c.add.ensures in
    gathering-turn _ _ _ _ _ _ _ c.loop-i.invariant (omega (arith, c.loop-i-test.true, length-in_words c.args.list.now.bytes.now)) _ _ _ c.word_at-this.ensures past (c.from-words.ensures ∙ byte-cond _)

pub returns : goal.returns
returns c = λ h f. counting-end _ _ _ _ (c.loop-i.invariant.good h f) (omega (arith, c.loop-i-test.false, length-in_words c.args.list.now.bytes.now))
