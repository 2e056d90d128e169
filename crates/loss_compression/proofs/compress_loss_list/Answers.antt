-- `compress_loss_list` meets its contract: what is judged is refused or written. Assumes nothing.
use mathlib.Core.Path.{sym, ◌∙◌}
use Rattle.std.proofs.lemmas.Result.{err_from_is_err_and}
use Rattle.wire.proofs.Storage.{as-words}
use Rattle.wire.proofs.Writes.{writes-refused}
use Rattle.loss_list.proofs.Compresses.{compresses-words}
use Rattle.loss_compression.proofs.compress_loss_list.Goals as goal

pub returns-in_err-words : goal.returns-in_err-words
returns-in_err-words c =
    let p = err_from_is_err_and c.from_residual.result c.from_residual.ensures.1 in
    rw (p.1, p.2) (compresses-words _ _ (writes-refused as-words _ _ _ (sym c.in_err-words.was ∙ c.judge.ensures)))

pub returns : goal.returns
returns c = compresses-words _ _ c.write.ensures
