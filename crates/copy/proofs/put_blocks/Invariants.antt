-- The buffer is what it was, with the first i blocks of the bytes pasted.
use Prim.Native.Nat.{◌*◌}
use mathlib.Core.Path.{◌≡◌}
use lib.Seq.{paste}
use Rattle.copy.proofs.put_blocks.Given as goal

abbrev pub invariant-loop-i : goal.invariant-loop-i
invariant-loop-i l = l.into ≡ paste l.initial.into 0 l.bytes (l.i * 64)
