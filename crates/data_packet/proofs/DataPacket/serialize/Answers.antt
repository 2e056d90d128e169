-- `data_packet::DataPacket::serialize` meets its contract: the buffer is written only where the packet was judged writable, and then there is room.
-- Assumes nothing.
use mathlib.Core.Path.{sym}
use Rattle.data_packet.proofs.Write.{writes-only, writes-length}
use Rattle.data_packet.proofs.DataPacket.serialize.Goals as goal

pub put-requires : goal.put-requires
put-requires c =
    let can = writes-only _ _ _ (sym c.in_ok-size.ensures) in
    record { message_number_bound = can.message; room = can.fits }

pub returns : goal.returns
returns c = record { answer = c.in_ok-size.ensures; contents = rw (writes-length _ _ _ (sym c.in_ok-size.ensures)) c.put.ensures }
