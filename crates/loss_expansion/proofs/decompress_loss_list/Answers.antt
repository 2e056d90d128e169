-- `decompress_loss_list` meets its contract: what is judged is refused or written. Assumes nothing.
use mathlib.Core.Path.{sym, ◌∙◌}
use Rattle.std.proofs.lemmas.Result.{err_from_is_err_and}
use Rattle.wire.proofs.Storage.{as-words}
use Rattle.wire.proofs.Writes.{writes-refused}
use Rattle.loss_list.proofs.Expands.{expands-words}
use Rattle.loss_expansion.proofs.decompress_loss_list.Goals as goal

pub returns-in_err-count : goal.returns-in_err-count
returns-in_err-count c =
    let p = err_from_is_err_and c.from_residual.result c.from_residual.ensures.1 in
    rw (p.1, p.2) (expands-words _ _ (writes-refused as-words _ _ _ (sym c.in_err-count.was ∙ c.judge.ensures)))

pub returns : goal.returns
returns c = expands-words _ _ c.write.ensures
