-- `store_at` meets its contract: the cells of the word come back with it. Assumes nothing.
use mathlib.Core.Path.{◌∙◌}
use Rattle.loss_list.proofs.Stored.{store-lent}
use Rattle.loss_compression.proofs.store_at.Goals as goal

pub returns : goal.returns
returns g c =
    let sized = g.met.C.Cell.sized in
    store-lent g.C.Cell.storage _ _ _ c.requires (c.SIZE.ensures ∙ sized) (c.SIZE-2.ensures ∙ sized) c.store.ensures
