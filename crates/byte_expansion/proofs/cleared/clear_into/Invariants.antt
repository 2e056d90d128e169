-- `clear_into` meets its contract, by the laws of `Clearing`. Assumes nothing.
use Rattle.wire.specs.Bytes.{in_words}
use Rattle.byte_expansion.proofs.Clearing.{Clearing}
use Rattle.byte_expansion.proofs.cleared.clear_into.Given as goal

abbrev pub invariant-words : goal.invariant-words
invariant-words l = Clearing (in_words l.list) l.initial.into l.into l.i
