-- `put_number` meets its contract: a turn of the loop writes one digit, by the laws of `Writing`. Assumes nothing.
use Prim.Native.Nat.{ℕ, ◌-◌}
use mathlib.Core.Path.{ap}
use native.Mathlib.Omega.{arith}
use borrow.Author.Tests.{lt-ltb}
use lib.ListN.{length}
use Rattle.decimal.specs.Decimal.{numeral}
use Rattle.decimal.proofs.Decimals.{numeral-some}
use Rattle.decimal.proofs.Writing.{writing_start, writing-last, writing-next, writing-end}
use Rattle.decimal.proofs.put_number.Goals as goal

pub returns-then-into-count : goal.returns-then-into-count
returns-then-into-count c = simp (lt-ltb (length c.args.into.now) (length (numeral c.args.n)) (omega (arith, c.digits-count.ensures)))

pub loop-i-init : goal.loop-i-init
loop-i-init c = writing_start _ _ _ (ap (λ (k : ℕ). k - 1) c.digits-count.ensures)

pub loop-i-preserved : goal.loop-i-preserved
loop-i-preserved c = writing-next c.loop-i.invariant (omega (arith, c.digits-count.ensures)) (omega arith)

pub overflow_cast-into-2 : goal.overflow_cast-into-2
overflow_cast-into-2 c = let small = writing-last c.loop-i.invariant (omega (arith, c.digits-count.ensures)) (omega arith) in omega (arith, small)

pub overflow_add-into-2 : goal.overflow_add-into-2
overflow_add-into-2 c = let small = writing-last c.loop-i.invariant (omega (arith, c.digits-count.ensures)) (omega arith) in omega (arith, small)

pub returns : goal.returns
returns c =
    let some = numeral-some c.args.n in
    writing-end c.loop-i.invariant (omega (arith, c.digits-count.ensures)) (omega arith)
