-- `one_says` meets its contract. Assumes nothing.
use Rattle.sheet_reading.proofs.Judging.{says-one, says-one-high}
use Rattle.sheet_reading.proofs.one_says.Goals as goal

pub returns-then-number-from : goal.returns-then-number-from
returns-then-number-from c = says-one _ (rw c.from.ensures at c.if-number-from.true)

pub returns : goal.returns
returns c = says-one-high _ (rw c.from.ensures at c.if-number-from.false)
