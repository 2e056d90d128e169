-- `read_sheet` meets its contract: each return is a law at what the sheet was judged to be. Assumes nothing.
use Rattle.std.proofs.lemmas.Result.{err_from_is_err_and}
use Rattle.sheet.specs.Sheet.{editions}
use Rattle.sheet_reading.proofs.Listing.{reads-no-room, reads-refused, reads-list}
use Rattle.sheet_reading.proofs.read_sheet.Goals as goal

pub returns-in_err-words : goal.returns-in_err-words
returns-in_err-words c =
    let p = err_from_is_err_and c.from_residual.result c.from_residual.ensures.1 in
    rw (p.1, p.2) (reads-refused editions _ _ c.judge_sheet.ensures c.in_err-words.was)

pub returns-then-into-words : goal.returns-then-into-words
returns-then-into-words c = reads-no-room editions _ _ c.judge_sheet.ensures c.in_ok-words.was c.if-into-words.true

pub returns : goal.returns
returns c = reads-list editions _ _ c.judge_sheet.ensures c.in_ok-words.was c.if-into-words.false c.list_into.ensures
