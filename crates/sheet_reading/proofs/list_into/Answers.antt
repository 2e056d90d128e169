-- `list_into` meets its contract: each turn stores the words of one line, by the laws of `Listing`. Assumes nothing.
use mathlib.Core.Path.{refl, ◌∙◌}
use Rattle.sheet.specs.Sheet.{editions}
use Rattle.sheet_reading.proofs.Judging.{standing}
use Rattle.sheet_reading.proofs.Listing.{writing_start, writing-storable, writing-next, writing-end}
use Rattle.sheet_reading.proofs.list_into.Goals as goal

pub loop-found-init : goal.loop-found-init
loop-found-init c = rw (c.into_iter-found-iterator.ensures.into_iter_gives, c.lines_from-found-items.ensures) (refl, writing_start editions _ _ c.requires)

pub store-out-requires : goal.store-out-requires
store-out-requires c = writing-storable editions _ _ c.loop-found.invariant.1 (standing _ _ (rw c.loop-found.invariant.0 at c.in-Some.ensures.steps.1) refl)

pub loop-found-preserved : goal.loop-found-preserved
loop-found-preserved c =
    let was = c.loop-found.invariant in
    let step = c.in-Some.ensures.steps in
    let line = standing _ _ (rw was.0 at step.1) refl in
    (step.0 ∙ was.0, rw step.2 (writing-next editions _ _ was.1 line c.store-out.ensures))

pub returns : goal.returns
returns c = writing-end editions _ _ c.loop-found.invariant.1 (rw c.loop-found.invariant.0 at c.in-None.ensures.steps.1) refl
