use Rattle.std.proofs.Common.{sym}
use Rattle.wire.proofs.Words.{length-in_words}
use Rattle.loss_list.proofs.U8Cell.count.Goals as goal

-- four bytes to a word, and what is left over is none
pub returns : goal.returns
returns c = sym (length-in_words c.args.cells.now)
