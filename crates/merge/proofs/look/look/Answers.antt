-- `look` meets its contract: each turn looks at one item, by the laws of `Looking`. Assumes nothing.
use mathlib.Core.Path.{◌∙◌}
use Rattle.merge.proofs.Looking.{sees-outside, looking-on, sees-inside}
use Rattle.merge.proofs.look.look.Goals as goal

pub returns-then-span-ge-WINDOW : goal.returns-then-span-ge-WINDOW
returns-then-span-ge-WINDOW g c =
    let was = c.loop-i.invariant in
    let step = c.in-Some.ensures.steps.2 in
    rw step.0 (sees-outside was.2 (rw (was.0, was.1) at step.1) c.if-span-ge-WINDOW.true)

pub loop-i-preserved : goal.loop-i-preserved
loop-i-preserved g c =
    let was = c.loop-i.invariant in
    let step = c.in-Some.ensures.steps in
    (step.0 ∙ was.0, step.1 ∙ was.1, rw step.2.2 (looking-on was.2 (rw (was.0, was.1) at step.2.1) c.if-span-ge-WINDOW.false c.in_turn-ordered.ensures))

pub returns : goal.returns
returns g c = sees-inside c.loop-i.invariant.2 (rw c.loop-i.invariant.0 at c.in-None.ensures.steps.2)
