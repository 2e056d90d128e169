-- `first_line` meets its contract: the constants are those of the edition. Assumes nothing.
use mathlib.Core.Path.{refl}
use Rattle.loss_list.specs.Run.{limit}
use Rattle.sheet.specs.Sheet.{edition}
use Rattle.sheet_writing.proofs.first_line.Goals as goal

pub returns : goal.returns
unfolding edition limit
returns c = refl
