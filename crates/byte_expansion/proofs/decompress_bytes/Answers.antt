-- `decompress_bytes` meets its contract: each return is a law of `Writes` at what the judge found. Assumes nothing.
use mathlib.Core.Path.{refl, sym, ◌∙◌}
use native.Mathlib.Omega.{arith}
use Rattle.std.proofs.lemmas.Result.{err_from_is_err_and}
use Rattle.wire.proofs.Words.{length-in_words}
use Rattle.wire.proofs.Storage.{as_bytes}
use Rattle.wire.proofs.Writes.{writes-refused, writes-no-room, writes-done}
use Rattle.loss_list.proofs.Expands.{count-is, judged-whole, judged-words, judged-numbers, expands_bytes}
use Rattle.byte_expansion.proofs.Clearing.{cleared-whole}
use Rattle.byte_expansion.proofs.decompress_bytes.Goals as goal

pub returns-in_err-count : goal.returns-in_err-count
returns-in_err-count c =
    let p = err_from_is_err_and c.from_residual.result c.from_residual.ensures.1 in
    rw (p.1, p.2) (expands_bytes _ _ (writes-refused as_bytes _ _ _ (sym c.in_err-count.was ∙ c.judge_bytes.ensures)))

pub invariant_of-write : goal.invariant_of-write
invariant_of-write c = record { judged = (judged-words _ (sym c.in_ok-count.was ∙ c.judge_bytes.ensures)).1 }

pub returns-then-count-list : goal.returns-then-count-list
returns-then-count-list c =
    let even = (judged-words _ (sym c.in_ok-count.was ∙ c.judge_bytes.ensures)).0 in
    expands_bytes _ _ (rw (length-in_words, judged-whole c.args.list.now even refl) at c.write.ensures)

pub returns-then-into-count : goal.returns-then-into-count
returns-then-into-count c =
    expands_bytes _ _ (writes-no-room as_bytes _ _ _ (sym c.in_ok-count.was ∙ c.judge_bytes.ensures) c.if-into-count.true)

pub clear_into-requires : goal.clear_into-requires
clear_into-requires c = rw length-in_words (omega (arith, c.if-into-count.false, c.if-count-list.false))

pub returns : goal.returns
returns c =
    let judged = sym c.in_ok-count.was ∙ c.judge_bytes.ensures in
    let formed = (judged-numbers _ (judged-words _ judged).1).1 in
    expands_bytes _ _ (writes-done as_bytes _ _ _ judged (count-is _ formed) c.if-into-count.false (cleared-whole _ _ _ formed c.if-count-list.false c.clear_into.ensures))
