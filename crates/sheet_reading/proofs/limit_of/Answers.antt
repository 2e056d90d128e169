-- `limit_of` meets its contract: the constants are those of the editions. Assumes nothing.
use mathlib.Core.Path.{refl}
use mathlib.Core.Logic.{inl}
use native.Mathlib.Omega.{arith}
use Rattle.sheet.specs.Sheet.{first_edition, edition}
use Rattle.sheet_reading.specs.Walk.{most, unknown}
use Rattle.sheet_reading.proofs.Judging.{not-two}
use Rattle.sheet_reading.proofs.limit_of.Goals as goal

pub returns-then-edition-eq-FIRST_EDITION : goal.returns-then-edition-eq-FIRST_EDITION
unfolding first_edition
returns-then-edition-eq-FIRST_EDITION c = most first_edition (inl refl) (omega arith)

pub returns : goal.returns
unfolding first_edition edition
returns c = unknown (not-two first_edition edition c.if-edition-eq-FIRST_EDITION.false (λ e. omega arith))
