-- `field_length` meets its contract: a number of 64 bits has at most 20 digits. Assumes nothing.
use native.Mathlib.Omega.{arith}
use Rattle.decimal.proofs.Decimals.{numeral-short}
use Rattle.line_writing.proofs.field_length.Goals as goal

pub overflow_add-result : goal.overflow_add-result
overflow_add-result c = omega (arith, numeral-short c.args.n (omega arith))

pub returns : goal.returns
returns c = (omega arith, omega (arith, numeral-short c.args.n (omega arith)))
