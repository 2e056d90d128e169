-- `put_number` meets its contract: a turn of the loop writes one digit, by the laws of `Writing`. Assumes nothing.
use Prim.Native.Nat.{◌-◌}
use Rattle.decimal.proofs.Writing.{Writing}
use Rattle.decimal.proofs.put_number.Given as goal

abbrev pub invariant-loop-i : goal.invariant-loop-i
invariant-loop-i l = Writing l.n l.initial.into l.into l.rest (l.i - 1)
