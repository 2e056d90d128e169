-- `Judged::write` meets its contract: each return is a law of `Writes` at what was judged. Assumes nothing.
use Rattle.wire.proofs.Writes.{writes-no-room, writes_room, writes-done}
use Rattle.loss_list.proofs.Compresses.{judged-compressed}
use Rattle.loss_compression.proofs.Judged.write.Goals as goal

pub returns-then-count-self : goal.returns-then-count-self
returns-then-count-self g c = writes-no-room g.C.Cell.storage _ _ _ c.args.self.now.judged (rw c.count.ensures at c.if-count-self.true)

pub compress_into-requires : goal.compress_into-requires
compress_into-requires g c =
    let judged = c.args.self.now.judged in
    let all = judged-compressed _ judged in
    record { in_order = all.0; room = writes_room g.C.Cell.storage _ _ _ judged all.1 (rw c.count.ensures at c.if-count-self.false) (g.met.C.Cell.fits c.args.into.now) }

pub returns : goal.returns
returns g c =
    let judged = c.args.self.now.judged in
    writes-done g.C.Cell.storage _ _ _ judged (judged-compressed _ judged).1 (rw c.count.ensures at c.if-count-self.false) c.compress_into.ensures
