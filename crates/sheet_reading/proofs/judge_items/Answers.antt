-- `judge_items` meets its contract: each turn reads the line of one item, by the laws of `Judging`. Assumes nothing.
use mathlib.Core.Path.{refl, ap, ◌∙◌}
use native.Mathlib.Omega.{arith}
use Rattle.std.specs.Prelude.{Some}
use Rattle.std.proofs.lemmas.Result.{err_from_is_err_and}
use Rattle.sheet.specs.Sheet.{editions}
use Rattle.sheet.proofs.Editions.{edition-small}
use Rattle.sheet_reading.proofs.Judging.{missing, standing, judging-start, judging-small, judging-nothing, judging-miscounted, judging-tail, judging-end, judging-neither, judging-past, judging-next}
use Rattle.sheet_reading.proofs.judge_items.Goals as goal

pub loop-found-init : goal.loop-found-init
loop-found-init c = rw (c.into_iter-found-iterator.ensures.into_iter_gives, c.lines_from-found-items.ensures) (refl, judging-start editions _ c.requires)

pub returns-in_err-said : goal.returns-in_err-said
returns-in_err-said c =
    let line = standing _ _ (rw c.loop-found.invariant.0 at c.in-Some.ensures.steps.1) refl in
    let p = err_from_is_err_and c.from_residual.result c.from_residual.ensures.1 in
    let refusal = missing c.in_err-said.ensures.value c.in_err-said.ensures.ok_part in
    rw (p.1, p.2, refusal) (judging-neither editions _ c.loop-found.invariant.1 line c.line_says.ensures c.in_err-said.ensures.ok_part)

pub returns-then-said-total : goal.returns-then-said-total
returns-then-said-total c =
    let line = standing _ _ (rw c.loop-found.invariant.0 at c.in-Some.ensures.steps.1) refl in
    judging-miscounted editions _ c.loop-found.invariant.1 line (edition-small _ c.loop-found.invariant.1.among).1 c.line_says.ensures (c.in_ok-said.ensures.ok_part ∙ ap Some c.in-End.is) c.if-said-total.true

pub overflow_add-result : goal.overflow_add-result
overflow_add-result c =
    omega (arith, judging-small editions _ c.loop-found.invariant.1, c.loop-found.invariant.1.limit, edition-small _ c.loop-found.invariant.1.among)

pub returns-then-found-sheet : goal.returns-then-found-sheet
returns-then-found-sheet c =
    let line = standing _ _ (rw c.loop-found.invariant.0 at c.in-Some.ensures.steps.1) refl in
    judging-tail editions _ c.loop-found.invariant.1 line (edition-small _ c.loop-found.invariant.1.among).1 c.line_says.ensures (c.in_ok-said.ensures.ok_part ∙ ap Some c.in-End.is) c.if-said-total.false c.if-found-sheet.true

pub returns-in-End : goal.returns-in-End
returns-in-End c =
    let line = standing _ _ (rw c.loop-found.invariant.0 at c.in-Some.ensures.steps.1) refl in
    judging-end editions _ c.loop-found.invariant.1 line (edition-small _ c.loop-found.invariant.1.among).1 c.line_says.ensures (c.in_ok-said.ensures.ok_part ∙ ap Some c.in-End.is) c.if-said-total.false (omega arith)

pub returns-then-most-total : goal.returns-then-most-total
returns-then-most-total c =
    let line = standing _ _ (rw c.loop-found.invariant.0 at c.in-Some.ensures.steps.1) refl in
    judging-past editions _ c.loop-found.invariant.1 line c.line_says.ensures (c.in_ok-said.ensures.ok_part ∙ ap Some c.in-Item.is) (omega (arith, judging-small editions _ c.loop-found.invariant.1))

pub overflow_add-words : goal.overflow_add-words
overflow_add-words c =
    let line = standing _ _ (rw c.loop-found.invariant.0 at c.in-Some.ensures.steps.1) refl in
    omega (arith, judging-small editions _ (judging-next editions _ c.loop-found.invariant.1 line c.line_says.ensures (c.in_ok-said.ensures.ok_part ∙ ap Some c.in-Item.is) (omega (arith, judging-small editions _ c.loop-found.invariant.1, c.if-most-total.false))))

pub overflow_add-lines : goal.overflow_add-lines
overflow_add-lines c =
    omega (arith, judging-small editions _ c.loop-found.invariant.1, c.loop-found.invariant.1.limit, edition-small _ c.loop-found.invariant.1.among)

pub loop-found-preserved : goal.loop-found-preserved
loop-found-preserved c =
    let line = standing _ _ (rw c.loop-found.invariant.0 at c.in-Some.ensures.steps.1) refl in
    let on = judging-next editions _ c.loop-found.invariant.1 line c.line_says.ensures (c.in_ok-said.ensures.ok_part ∙ ap Some c.in-Item.is) (omega (arith, judging-small editions _ c.loop-found.invariant.1, c.if-most-total.false)) in
    (c.in-Some.ensures.steps.0 ∙ c.loop-found.invariant.0, rw c.in-Some.ensures.steps.2 on)

pub returns : goal.returns
returns c = judging-nothing editions _ c.loop-found.invariant.1 (rw c.loop-found.invariant.0 at c.in-None.ensures.steps.1) refl
