-- The buffer is what it was, with the first i bytes pasted at `at`.
use mathlib.Core.Path.{◌≡◌}
use lib.Seq.{paste}
use Rattle.copy.proofs.put_bytes.Given as goal

abbrev pub invariant-loop-i : goal.invariant-loop-i
invariant-loop-i l = l.into ≡ paste l.initial.into l.at l.bytes l.i
