-- `mark` meets its contract: each turn marks the numbers of one item, by the laws of `Marking`. Assumes nothing.
use mathlib.Core.Path.{refl, ◌∙◌}
use Rattle.merge.proofs.Marking.{marking-start, marking-on}
use Rattle.merge.proofs.marks.mark.Goals as goal

pub loop-span-init : goal.loop-span-init
loop-span-init g c = rw (c.into_iter-span-iterator.ensures.into_iter_gives, c.items_from-span-items.ensures) (refl, refl, marking-start _ _ _ c.requires _)

pub loop-span-preserved : goal.loop-span-preserved
loop-span-preserved g c =
    let was = c.loop-span.invariant in
    let step = c.in-Some.ensures.steps in (
      step.0 ∙ was.0,
      step.1 ∙ was.1,
      rw step.2.2 (marking-on _ _ _ was.2 (rw (was.0, was.1) at step.2.1) (rw (c.past.ensures, c.past-in-loop-span.ensures) at c.set.ensures)),
    )
