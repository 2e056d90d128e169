-- `data_packet::DataPacket::put` meets its contract: each of the five parts that are lent adds its bytes to what stands at the front of the buffer.
-- Assumes nothing.
use Prim.Native.Nat.{ℕ, ◌+◌}
use mathlib.Core.List.{[], ◌++◌}
use mathlib.Core.Path.{refl, ap, ◌∙◌}
use native.Mathlib.Omega.{arith}
use lib.ListN.{length, drop}
use Rattle.wire.specs.Bytes.{bytes32}
use Rattle.wire.proofs.Lent.{lent-next}
use Rattle.data_packet.specs.Writing.{bytes_of, second_word}
use Rattle.data_packet.proofs.DataPacket.put.Goals as goal

pub returns : goal.returns
unfolding bytes_of second_word
returns c =
    let into = c.args.into.now in
    let payload = c.args.payload.now in
    let w0 = bytes32 c.args.self.seq_number.0 in
    let w1 = bytes32 c.second_word.result in
    let w2 = bytes32 c.args.self.timestamp.0 in
    let w3 = bytes32 c.args.self.dest_sockid.0 in
    let one = lent-next [] w0 into 0 4 refl refl (omega arith) refl c.put_word.ensures refl in
    let two = lent-next w0 w1 into 4 8 refl refl (omega arith) one c.put_word-2.ensures refl in
    let three = lent-next (w0 ++ w1) w2 into 8 12 refl refl (omega arith) two c.put_word-3.ensures refl in
    let four = lent-next (w0 ++ w1 ++ w2) w3 into 12 16 refl refl (omega arith) three c.put_word-4.ensures refl in
    lent-next (w0 ++ w1 ++ w2 ++ w3) payload into 16 (16 + length payload) refl refl c.requires.room four c.put.ensures refl
    ∙ ap (λ (w : ℕ). w0 ++ bytes32 w ++ w2 ++ w3 ++ payload ++ drop (16 + length payload) into) c.second_word.ensures
