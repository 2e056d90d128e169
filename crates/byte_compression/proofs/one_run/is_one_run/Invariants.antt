-- `is_one_run` meets its contract, by the laws of `OneRun`. Assumes nothing.
use Rattle.wire.specs.Bytes.{in_words}
use Rattle.byte_compression.proofs.OneRun.{Walking}
use Rattle.byte_compression.proofs.one_run.is_one_run.Given as goal

abbrev pub invariant-loop-i : goal.invariant-loop-i
invariant-loop-i l = Walking (in_words l.list.bytes.now) l.strays l.i
