-- `data_fields::write` meets its contract: a record that is given is the one that the words make, and then the writer keeps its promise.
-- Assumes nothing.
use mathlib.Core.Path.{sym, ap, ◌∙◌}
use lib.ListN.{length}
use Rattle.std.specs.Prelude.{Result}
use Rattle.refusal.specs.declared.Refusal.{Refusal}
use Rattle.data_packet.specs.declared.DataPacket.{DataPacket}
use Rattle.data_fields.specs.Data.{judged_given, data_written}
use Rattle.data_fields.proofs.DataLaws.{given-record}
use Rattle.data_fields.proofs.write.Goals as goal

pub returns : goal.returns
unfolding data_written
returns c =
    let n = length c.args.payload.now in
    let room = length c.args.into.now in
    let given = sym c.record_from.ensures ∙ c.in_ok-record_from.was in
    let wrote = c.serialize.ensures in
    let same = given-record c.args.fields.now given in
    record {
      answer = wrote.answer ∙ sym (ap (λ (x : Result DataPacket Refusal). judged_given x n room) given);
      contents = rw same at wrote.contents;
    }
