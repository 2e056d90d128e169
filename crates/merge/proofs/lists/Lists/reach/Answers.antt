-- `reach` meets its contract: what is marked is covered, by a law of `Walking`. Assumes nothing.
use Rattle.merge.proofs.Walking.{farther-inside, unmarked, extends-marked}
use Rattle.merge.proofs.lists.Lists.reach.Goals as goal

pub returns : goal.returns
returns g c = extends-marked (unmarked 512) c.mark.ensures c.mark-2.ensures c.leading.ensures (farther-inside c.requires.end_bound.0 c.requires.end_bound.1 c.max-next.ensures) c.max-next.ensures
