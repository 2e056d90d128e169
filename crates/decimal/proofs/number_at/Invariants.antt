-- `number_at` meets its contract: a turn of the loop reads one digit, by the laws of `Reading`. Assumes nothing.
use mathlib.Core.Path.{◌≡◌}
use lib.ListN.{take}
use Rattle.decimal.specs.Decimal.{capped}
use Rattle.decimal.proofs.Decimals.{value_of}
use Rattle.decimal.proofs.number_at.Given as goal

abbrev pub invariant-loop-digit : goal.invariant-loop-digit
invariant-loop-digit l = l.value ≡ capped (value_of 0 (take l.digit-index l.digits))
