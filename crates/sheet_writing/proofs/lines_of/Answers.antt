-- `lines_of` meets its contract: a list that is judged has no fault. Assumes nothing.
use Rattle.loss_list.proofs.Expands.{judged-expanded}
use Rattle.sheet_writing.proofs.lines_of.Goals as goal

pub returns-clause-sound : goal.returns-clause-sound
returns-clause-sound c = (judged-expanded _ c.args.judged.now.judged).0
