-- `data_fields::read_data` meets its contract: what `read` answers, packed. Assumes nothing.
use mathlib.Core.Path.{ap, ◌∙◌}
use Rattle.answer.specs.Packed.{packed_size_low}
use Rattle.answer.proofs.Halves.{packed_size-whole}
use Rattle.data_fields.specs.Data.{data_read}
use Rattle.data_fields.proofs.DataLaws.{read-small}
use Rattle.data_fields.proofs.read_data.Goals as goal

pub returns : goal.returns
unfolding data_read
returns c = record { answer = c.packed.ensures ∙ ap packed_size_low c.read.ensures.answer ∙ packed_size-whole _ (read-small _ _ _ _); leaves = c.read.ensures.leaves }
