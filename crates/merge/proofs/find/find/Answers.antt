-- `find` meets its contract: each turn looks at one item, by the laws of `Finding`. Assumes nothing.
use mathlib.Core.Path.{◌∙◌}
use Rattle.merge.proofs.Finding.{finding-on, finds-here, finds-all}
use Rattle.merge.proofs.find.find.Goals as goal

pub returns-then-stops : goal.returns-then-stops
returns-then-stops g c =
    let was = c.loop-i.invariant in
    let step = c.in-Some.ensures.steps.2 in
    rw step.0 (finds-here _ _ _ _ was.2 (rw (was.0, was.1) at step.1) c.with-near.ensures c.stops.ensures c.if-stops.true)

pub loop-i-preserved : goal.loop-i-preserved
loop-i-preserved g c =
    let was = c.loop-i.invariant in
    let step = c.in-Some.ensures.steps in
    let on = finding-on _ _ _ _ was.2 (rw (was.0, was.1) at step.2.1) c.with-near.ensures c.stops.ensures c.if-stops.false in
    (step.0 ∙ was.0, step.1 ∙ was.1, rw step.2.2 on)

pub returns : goal.returns
returns g c =
    let was = c.loop-i.invariant in
    finds-all _ _ _ _ was.2 (rw was.0 at c.in-None.ensures.steps.2) c.requires.stands
