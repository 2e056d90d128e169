-- `why_lost_bytes` meets its contract: what bytes are judged is what their words are. Assumes nothing.
use mathlib.Core.Path.{sym, ◌∙◌}
use Rattle.loss_list.proofs.Expands.{judged-words}
use Rattle.why_lost.proofs.why_lost_bytes.Goals as goal

pub invariant_of-find : goal.invariant_of-find
invariant_of-find c = record { judged = (judged-words _ (sym c.in_ok-count.was ∙ c.judge_bytes.ensures)).1 }
