-- `add` is safe: a number of 64 bits has at most 20 digits. Assumes nothing.
use native.Mathlib.Omega.{arith}
use Rattle.decimal.proofs.Decimals.{numeral-short}
use Rattle.read_sheet.proofs.Page.add.Goals as goal

pub overflow_add-end : goal.overflow_add-end
overflow_add-end c = omega (arith, rw c.from.ensures at c.digits.ensures, numeral-short c.args.number (omega arith))
