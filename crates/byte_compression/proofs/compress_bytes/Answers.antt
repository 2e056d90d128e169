-- `compress_bytes` meets its contract: an odd length is refused first, one run is what `compress_run` answers, and each other return is a law of `Writes`. Assumes nothing.
use mathlib.Core.Path.{sym, ◌∙◌}
use native.Mathlib.Omega.{arith}
use Rattle.std.proofs.lemmas.Result.{err_from_is_err_and}
use Rattle.loss_list.specs.Run.{limit}
use Rattle.wire.proofs.Words.{length-in_words}
use Rattle.wire.proofs.Storage.{as_bytes}
use Rattle.wire.proofs.Writes.{writes-refused, writes-no-room, writes-done}
use Rattle.loss_list.proofs.Compresses.{judged-too-long, judged-ordered, judged-compressed, compresses-odd, compresses_bytes}
use Rattle.byte_compression.proofs.Copying.{copied-whole}
use Rattle.byte_compression.proofs.compress_bytes.Goals as goal

pub returns-then-list-ne0 : goal.returns-then-list-ne0
returns-then-list-ne0 c = compresses-odd _ _ c.if-list-ne0.true

pub returns-then-n-gt-LIMIT : goal.returns-then-n-gt-LIMIT
unfolding limit
returns-then-n-gt-LIMIT c = compresses_bytes _ _ c.if-list-ne0.false (writes-refused as_bytes _ _ _ (judged-too-long _ (omega (arith, length-in_words c.args.list.now))))

pub invariant_of-limited : goal.invariant_of-limited
unfolding limit
invariant_of-limited c = record { whole = c.if-list-ne0.false; within = omega (arith, length-in_words) }

pub returns-in_err-words : goal.returns-in_err-words
returns-in_err-words c =
    let p = err_from_is_err_and c.from_residual.result c.from_residual.ensures.1 in
    rw (p.1, p.2) (compresses_bytes _ _ c.if-list-ne0.false (writes-refused as_bytes _ _ _ (sym c.in_err-words.was ∙ c.judge_quickly.ensures)))

pub returns-then-words-n : goal.returns-then-words-n
returns-then-words-n c = compresses_bytes _ _ c.if-list-ne0.false (rw length-in_words at c.write.ensures)

pub returns-then-into-words : goal.returns-then-into-words
returns-then-into-words c =
    compresses_bytes _ _ c.if-list-ne0.false (writes-no-room as_bytes _ _ _ (sym c.in_ok-words.was ∙ c.judge_quickly.ensures) c.if-into-words.true)

pub returns : goal.returns
returns c =
    let even = c.if-list-ne0.false in
    let judged = sym c.in_ok-words.was ∙ c.judge_quickly.ensures in
    let room = c.if-into-words.false in
    let written = copied-whole _ _ _ (λ i. (c.type_inv.list i).fits) even (judged-ordered _ judged).1 (omega (arith, c)) room c.put.ensures in
    compresses_bytes _ _ even (writes-done as_bytes _ _ _ judged (judged-compressed _ judged).1 room written)
