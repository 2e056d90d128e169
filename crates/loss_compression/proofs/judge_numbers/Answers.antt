-- `judge_numbers` meets its contract: each turn counts one number, by the laws of `Codings`. Assumes nothing.
use mathlib.Core.Path.{sym, ◌∙◌}
use native.Mathlib.Omega.{arith}
use Rattle.std.proofs.lemmas.Result.{err_from_is_err_and}
use Rattle.loss_steps.proofs.Codings.{counting-none, counting-fault, counting-start, counting-wrong, counting_more, counting-turn, counting-end}
use Rattle.loss_compression.proofs.judge_numbers.Goals as goal

pub returns-then-count-eq0 : goal.returns-then-count-eq0
returns-then-count-eq0 g c = counting-none _ (sym c.count-count.ensures ∙ c.if-count-eq0.true)

pub returns-then-first-ge-FLAG : goal.returns-then-first-ge-FLAG
returns-then-first-ge-FLAG g c = counting-fault _ (omega arith) (rw c.word-first.ensures at c.if-first-ge-FLAG.true)

pub loop-i-init : goal.loop-i-init
loop-i-init g c = rw c.word-first.ensures (counting-start _ (omega arith) (rw c.word-first.ensures at c.if-first-ge-FLAG.false))

pub returns-in_err-counted : goal.returns-in_err-counted
returns-in_err-counted g c =
    let p = err_from_is_err_and c.from_residual.result c.from_residual.ensures.1 in
    rw (p.1, p.2) (counting-wrong _ _ _ _ c.loop-i.invariant (omega arith) (rw c.word.ensures at c.with.ensures) c.in_err-counted.was)

pub overflow_add-words : goal.overflow_add-words
overflow_add-words g c =
    omega (arith, counting_more _ _ _ _ c.loop-i.invariant (omega arith) (rw c.word.ensures at c.with.ensures) c.in_ok-counted.was, c.loop-i.invariant.bounded)

pub loop-i-preserved : goal.loop-i-preserved
loop-i-preserved g c = counting-turn _ _ _ _ c.loop-i.invariant (omega arith) (rw c.word.ensures at c.with.ensures) c.in_ok-counted.was

pub returns : goal.returns
returns g c = counting-end _ _ _ _ c.loop-i.invariant (omega arith)
