-- `judge_items` meets its contract: each turn counts one item, by the laws of `Judging`. Assumes nothing.
use mathlib.Core.Path.{◌∙◌}
use native.Mathlib.Omega.{arith}
use Rattle.std.proofs.lemmas.Result.{err_from_is_err_and}
use Rattle.loss_steps.proofs.Heads.{run-within}
use Rattle.loss_steps.proofs.Judging.{judging-start, judging-turn, judging-fault, judging-end}
use Rattle.loss_expansion.proofs.judge_items.Goals as goal

pub loop-i-init : goal.loop-i-init
loop-i-init g c = judging-start _

pub returns-in_err-item : goal.returns-in_err-item
returns-in_err-item g c =
    let p = err_from_is_err_and c.from_residual.result c.from_residual.ensures.1 in
    rw (p.1, p.2) (judging-fault _ _ _ c.loop-i.invariant (c.head_at.ensures.item (rw c.count.ensures at c.loop-i-test.true)) c.in_err-item.was)

pub overflow_add-i : goal.overflow_add-i
overflow_add-i g c =
    omega (arith, run-within _ _ (c.head_at.ensures.item (rw c.count.ensures at c.loop-i-test.true)) c.in_ok-item.was, c)

pub loop-i-smaller : goal.loop-i-smaller
loop-i-smaller g c =
    omega (arith, run-within _ _ (c.head_at.ensures.item (rw c.count.ensures at c.loop-i-test.true)) c.in_ok-item.was)

pub loop-i-preserved : goal.loop-i-preserved
loop-i-preserved g c =
    let within = rw c.count.ensures at c.loop-i-test.true in
    judging-turn _ _ _ c.loop-i.invariant (c.head_at.ensures.item within) _ within c.in_ok-item.was c.with-tally.ensures

pub returns : goal.returns
returns g c = c.answer.ensures ∙ judging-end _ _ _ c.loop-i.invariant (rw c.count.ensures at c.loop-i-test.false)
