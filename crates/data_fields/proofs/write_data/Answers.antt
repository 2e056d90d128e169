-- `data_fields::write_data` meets its contract: what `write` answers, packed. Assumes nothing.
use mathlib.Core.Path.{ap, ◌∙◌}
use Rattle.answer.specs.Packed.{packed_size_low}
use Rattle.answer.proofs.Halves.{packed_size-whole}
use Rattle.data_fields.proofs.DataLaws.{written-small}
use Rattle.data_fields.proofs.write_data.Goals as goal

pub returns : goal.returns
returns c = record { answer = c.packed.ensures ∙ ap packed_size_low c.write.ensures.answer ∙ packed_size-whole _ (written-small _ _ _); leaves = rw c.write.ensures.answer at c.write.ensures.contents }
