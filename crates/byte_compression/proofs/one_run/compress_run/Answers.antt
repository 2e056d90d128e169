-- `compress_run` meets its contract: the two words of the run are known, by the laws of `OneRun`. Assumes nothing.
use native.Mathlib.Omega.{arith}
use Rattle.wire.proofs.Words.{length-in_words}
use Rattle.wire.proofs.Storage.{as_bytes}
use Rattle.wire.proofs.Writes.{writes-no-room, writes-done}
use Rattle.loss_list.proofs.Compresses.{judged-compressed, compresses_bytes}
use Rattle.byte_compression.proofs.OneRun.{run-judged, run-lent}
use Rattle.byte_compression.proofs.one_run.compress_run.Goals as goal

pub returns-then-into-lt2 : goal.returns-then-into-lt2
returns-then-into-lt2 c = compresses_bytes _ _ c.args.list.now.whole (writes-no-room as_bytes _ _ _ (run-judged _ c.requires c.args.list.now.within) c.if-into-lt2.true)

pub overflow_sub-n : goal.overflow_sub-n
overflow_sub-n c = omega (arith, length-in_words c.args.list.now.bytes.now, c.requires.many)

pub returns : goal.returns
returns c =
    let one = c.requires in
    let judged = run-judged _ one c.args.list.now.within in
    let room = c.if-into-lt2.false in
    compresses_bytes _ _ c.args.list.now.whole
    (writes-done as_bytes _ _ _ judged (judged-compressed _ judged).1 room
    (run-lent _ _ one (omega arith) (rw c.word_at.ensures at c.put_word.ensures) (rw (c.word_at-2.ensures, ← length-in_words c.args.list.now.bytes.now) at c.put_word-2.ensures)))
