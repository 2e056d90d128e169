-- `merge_loss_lists` meets its contract: what the lists are judged to be is what its rule asks of them. Assumes nothing.
use Rattle.merge.proofs.Merged.{judges-words, merges-words}
use Rattle.merge.proofs.merge_loss_lists.Goals as goal

pub merge-requires : goal.merge-requires
merge-requires c =
    record {
      first_judged = judges-words _ (λ i. (c.type_inv.first i).fits) c.judge.ensures;
      second_judged = judges-words _ (λ i. (c.type_inv.second i).fits) c.judge-2.ensures;
    }

pub returns : goal.returns
returns c = merges-words _ _ _ _ c.judge.ensures c.judge-2.ensures c.merge.ensures
