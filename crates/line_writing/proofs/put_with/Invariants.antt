-- `put_with` meets its contract: the word and the fields so far stand at the front of the buffer. Assumes nothing.
use Rattle.line_writing.proofs.Writing.{Writing}
use Rattle.line_writing.proofs.put_with.Given as goal

abbrev pub invariant-loop-number : goal.invariant-loop-number
invariant-loop-number l = Writing l.word l.numbers l.fn.into l.into l.number-index l.end
