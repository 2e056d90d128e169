-- `Tally::with` meets its contract: each return is a case of `tally_with`. Assumes nothing.
use mathlib.Core.Path.{sym, ◌∙◌}
use native.Mathlib.Omega.{arith}
use Rattle.loss_list.specs.Run.{limit}
use Rattle.loss_steps.proofs.Tallies.{with-past, with-more, with_over}
use Rattle.loss_steps.proofs.item.Tally.with.Goals as goal

pub returns-then-is_some : goal.returns-then-is_some
returns-then-is_some c = with-past _ _ _ (sym c.is_some.ensures ∙ c.if-is_some.true)

pub returns-then-more-total : goal.returns-then-more-total
unfolding limit
returns-then-more-total c = with-more _ _ _ (sym c.is_some.ensures ∙ c.if-is_some.false) (omega arith)

pub returns-else-more-total : goal.returns-else-more-total
unfolding limit
returns-else-more-total c = with_over _ _ _ (sym c.is_some.ensures ∙ c.if-is_some.false) (omega arith)

pub returns-else-total-lt-LIMIT : goal.returns-else-total-lt-LIMIT
unfolding limit
returns-else-total-lt-LIMIT c = with_over _ _ _ (sym c.is_some.ensures ∙ c.if-is_some.false) (omega arith)
