-- `judge_numbers` meets its contract: each turn counts one number, by the laws of `Codings`. Assumes nothing.
use Rattle.loss_steps.proofs.Codings.{Counting}
use Rattle.loss_compression.proofs.judge_numbers.Given as goal

abbrev pub invariant-loop-i : goal.invariant-loop-i
invariant-loop-i g l = Counting (g.C.Cell.words l.list) l.coding l.words l.i
