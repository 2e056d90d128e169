-- `is_one_run` meets its contract, by the laws of `OneRun`. The measure is what is left of the list. Assumes nothing.
use mathlib.Core.Path.{ap, ◌∙◌}
use mathlib.Core.Bool.{cond, not}
use Prim.Native.Nat.{ℕ}
use native.Mathlib.Omega.{arith}
use borrow.Author.Tests.{eqb-true}
use lib.Dec.{eqb}
use Rattle.ring.specs.Ring.{after}
use Rattle.wire.proofs.Words.{length-in_words}
use Rattle.loss_list.proofs.Limits.{limit_is}
use Rattle.byte_compression.proofs.Gathering.{at_most_one, byte-cond}
use Rattle.byte_compression.proofs.OneRun.{walking-turn, walking-end}
use Rattle.byte_compression.proofs.one_run.is_one_run.Goals as goal

pub overflow_cast-n : goal.overflow_cast-n
overflow_cast-n c = record { fits = omega (arith, limit_is, c.args.list.now.within, length-in_words c.args.list.now.bytes.now) }

pub overflow_cast-i : goal.overflow_cast-i
overflow_cast-i c = record { fits = omega (arith, limit_is, c.args.list.now.within, length-in_words c.args.list.now.bytes.now) }

pub overflow_add-strays : goal.overflow_add-strays
overflow_add-strays c = record { fits = omega (arith, limit_is, c.loop-i.invariant.few, at_most_one _ _ (c.from-strays.ensures ∙ byte-cond _), c.args.list.now.within, length-in_words c.args.list.now.bytes.now) }

pub loop-i-preserved : goal.loop-i-preserved
loop-i-preserved c = walking-turn _ _ _ c.loop-i.invariant (omega (arith, c.loop-i-test.true, c.args.list.now.within, length-in_words c.args.list.now.bytes.now)) _ _ c.word_at-this.ensures (c.from-strays.ensures ∙ byte-cond _ ∙ ap (λ (k : ℕ). cond (not (eqb c.word_at-this.result k)) 1 0) (c.add-in-loop-i.ensures ∙ ap (λ (k : ℕ). after 31 k c.loop-i.i) c.word_at-first.ensures))

pub returns : goal.returns
returns c = λ e. walking-end _ _ _ c.loop-i.invariant (omega (arith, c.loop-i-test.false, c.args.list.now.within, length-in_words c.args.list.now.bytes.now)) (omega (arith, c.if-n-le2.false, c.args.list.now.within, length-in_words c.args.list.now.bytes.now)) (omega (arith, c.word_at-first.ensures, c.if-first-ge-FLAG.false)) (eqb-true _ _ e)
