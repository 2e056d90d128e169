-- `read_key` meets its contract: no refusal carries more than 32 bits, so nothing of it is cut. Assumes nothing.
use mathlib.Core.Path.{sym, ap, refl, ◌∙◌}
use Rattle.wire.specs.Bytes.{Octets}
use Rattle.answer.specs.Packed.{packed_size}
use Rattle.answer.proofs.Halves.{packed_size-whole}
use Rattle.key_fields.proofs.KeyLaws.{answered-small}
use Rattle.key_fields.proofs.read_key.Goals as goal

pub returns : goal.returns
returns c =
    let octets : Octets c.args.message.now = λ i. (c.type_inv.message i).fits in
    let answer = c.read_fields.ensures.answer in
    record {
      answer = c.packed.ensures ∙ packed_size-whole c.read_fields.result (λ r e. answered-small c.args.message.now octets _ _ refl (sym answer ∙ e)) ∙ ap packed_size answer;
      leaves = c.read_fields.ensures.leaves;
    }
