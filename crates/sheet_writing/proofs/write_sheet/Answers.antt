-- `write_sheet` meets its contract: each return is a law of `Writes` at what `judge` found. Assumes nothing.
use mathlib.Core.Path.{sym, ◌∙◌}
use Rattle.std.proofs.lemmas.Result.{err_from_is_err_and}
use Rattle.sheet.specs.Sheet.{edition}
use Rattle.sheet_writing.proofs.Writing.{writes-refused, writes-no-room, writes-done}
use Rattle.sheet_writing.proofs.write_sheet.Goals as goal

pub returns-in_err-count : goal.returns-in_err-count
unfolding edition
returns-in_err-count c =
    let p = err_from_is_err_and c.from_residual.result c.from_residual.ensures.1 in
    rw (p.1, p.2) (writes-refused edition _ _ (sym c.judge.ensures ∙ c.in_err-count.was))

pub returns-then-into-bytes : goal.returns-then-into-bytes
unfolding edition
returns-then-into-bytes c =
    writes-no-room edition _ _ (sym c.judge.ensures ∙ c.in_ok-count.was) c.sheet_length-bytes.ensures c.if-into-bytes.true

pub returns : goal.returns
unfolding edition
returns c =
    writes-done edition _ _ (sym c.judge.ensures ∙ c.in_ok-count.was) c.sheet_length-bytes.ensures c.if-into-bytes.false c.sheet_into.ensures
