-- `gather` meets its contract, by the laws of `Gathering`. Assumes nothing.
use Rattle.wire.specs.Bytes.{in_words}
use Rattle.byte_expansion.proofs.Gathering.{Gathering}
use Rattle.byte_expansion.proofs.gather.gather.Given as goal

abbrev pub invariant-loop-i : goal.invariant-loop-i
invariant-loop-i l = Gathering (in_words l.list.bytes.now) l.sum l.last l.i
