-- `put` meets its contract: the cells of the word come back with it. Assumes nothing.
use mathlib.Core.Path.{◌∙◌}
use borrow.Rule.Slice.PartMut.{same_len_mid}
use Rattle.loss_list.proofs.Stored.{store-lent}
use Rattle.merge.proofs.write.put.Goals as goal

pub returns-then-not-is_empty : goal.returns-then-not-is_empty
returns-then-not-is_empty g c =
    let sized = g.met.C.Cell.sized in
    record {
      long = same_len_mid _ _ c.args.into.now _ c.store.auto.cells;
      stores = λ some. store-lent g.C.Cell.storage _ _ _ (c.requires some) (c.SIZE.ensures ∙ sized) (c.SIZE-then-not-is_empty.ensures ∙ sized) c.store.ensures;
    }
