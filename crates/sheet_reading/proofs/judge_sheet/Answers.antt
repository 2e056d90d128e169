-- `judge_sheet` meets its contract: each return is a law of the first line. Assumes nothing.
use mathlib.Core.Path.{refl}
use Rattle.std.proofs.lemmas.Result.{err_from_is_err_and}
use mathlib.Core.Logic.{inl}
use Rattle.sheet.specs.Sheet.{first_edition, editions}
use Rattle.sheet.proofs.Editions.{edition-small, one-limit}
use Rattle.sheet_reading.proofs.Judging.{missing, standing, first-nothing, first-other, first-edition, first-limit, first-opens}
use Rattle.sheet_reading.proofs.judge_sheet.Goals as goal

pub returns-in_err-found : goal.returns-in_err-found
returns-in_err-found c =
    let p = err_from_is_err_and c.from_residual.result c.from_residual.ensures.1 in
    let refusal = missing c.in_err-found.ensures.value c.in_err-found.ensures.ok_part in
    rw (p.1, p.2, refusal) (first-nothing editions _ first_edition (inl refl) c.line_at.ensures c.in_err-found.ensures.ok_part)

pub returns-in_default : goal.returns-in_default
returns-in_default c =
    let line = standing _ _ c.line_at.ensures c.in_ok-found.ensures.ok_part in
    first-other editions _ first_edition (inl refl) line c.in_default.not-Gaps

pub returns-in_err-most : goal.returns-in_err-most
returns-in_err-most c =
    let line = standing _ _ c.line_at.ensures c.in_ok-found.ensures.ok_part in
    let p = err_from_is_err_and c.from_residual-in_err-most.result c.from_residual-in_err-most.ensures.1 in
    let refusal = missing c.in_err-most.ensures.value c.in_err-most.ensures.ok_part in
    rw (p.1, p.2, refusal, c.shown_edition.ensures) (first-edition editions _ line c.in-Gaps.is edition-small c.limit_of.ensures c.in_err-most.ensures.ok_part)

pub returns-then-limit-most : goal.returns-then-limit-most
returns-then-limit-most c =
    let line = standing _ _ c.line_at.ensures c.in_ok-found.ensures.ok_part in
    first-limit editions _ line c.in-Gaps.is edition-small c.limit_of.ensures c.in_ok-most.ensures.ok_part one-limit c.if-limit-most.true

pub judge_items-requires : goal.judge_items-requires
judge_items-requires c =
    let line = standing _ _ c.line_at.ensures c.in_ok-found.ensures.ok_part in
    first-opens editions _ line c.in-Gaps.is edition-small c.limit_of.ensures c.in_ok-most.ensures.ok_part c.if-limit-most.false
