-- `merge_bytes` meets its contract: what the lists are judged to be is what its rule asks of them. Assumes nothing.
use Rattle.merge.proofs.Merged.{judges-bytes, merges-bytes}
use Rattle.merge.proofs.merge_bytes.Goals as goal

pub merge-requires : goal.merge-requires
merge-requires c =
    record {
      first_judged = judges-bytes _ (λ i. (c.type_inv.first i).fits) c.judge_bytes.ensures;
      second_judged = judges-bytes _ (λ i. (c.type_inv.second i).fits) c.judge_bytes-2.ensures;
    }

pub returns : goal.returns
returns c = merges-bytes _ _ _ _ c.judge_bytes.ensures c.judge_bytes-2.ensures c.merge.ensures
