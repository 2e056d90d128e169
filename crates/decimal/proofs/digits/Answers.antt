-- `digits` meets its contract: the power of ten below a number says how many digits it has. Assumes nothing.
use mathlib.Core.Path.{sym}
use native.Mathlib.Omega.{arith}
use Rattle.decimal.proofs.Decimals.{length-small, length-power}
use Rattle.decimal.proofs.digits.Goals as goal

pub returns-in-Some : goal.returns-in-Some
returns-in-Some c = sym (length-power _ _ c.in-Some.ensures.power_le c.in-Some.ensures.next_power_gt)

pub returns-in-None : goal.returns-in-None
returns-in-None c = sym (length-small _ (omega (arith, c.in-None.ensures.none)))
