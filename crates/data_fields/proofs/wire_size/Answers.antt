-- `data_fields::wire_size` meets its contract: what `size_on_wire` answers of the family that the number stands for, packed. Assumes nothing.
use mathlib.Core.Path.{◌≡◌, ap, ◌∙◌}
use Rattle.answer.specs.Packed.{packed_size_low}
use Rattle.answer.proofs.Halves.{packed_size-whole}
use Rattle.packet_kinds.specs.declared.IpFamily.{IpFamily}
use Rattle.packet_kinds.specs.Kinds.{family}
use Rattle.data_packet.specs.Writing.{wire_size}
use Rattle.data_fields.proofs.DataLaws.{size_small}
use Rattle.data_fields.proofs.wire_size.Goals as goal

pub returns : goal.returns
returns c =
    let size : c.size_on_wire.result ≡ wire_size (family c.args.family) c.args.bytes = c.size_on_wire.ensures ∙ ap (λ (f : IpFamily). wire_size f c.args.bytes) c.from.ensures in
    c.packed.ensures ∙ ap packed_size_low size ∙ packed_size-whole _ (λ r e. size_small _ _ e)
