-- `gather` meets its contract: each turn counts one number, by the laws of `GatheringNumbers`. Assumes nothing.
use Rattle.wire.specs.Bytes.{in_words}
use Rattle.byte_compression.proofs.Gathering.{Gathering}
use Rattle.byte_compression.proofs.gather.gather.Given as goal

abbrev pub invariant-loop-i : goal.invariant-loop-i
invariant-loop-i l = Gathering (in_words l.list.bytes.now) l.last l.numbers l.steps l.words l.before l.i
