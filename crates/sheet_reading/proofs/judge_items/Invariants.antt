-- `judge_items` meets its contract: each turn reads the line of one item, by the laws of `Judging`. Assumes nothing.
use mathlib.Core.Path.{◌≡◌}
use Rattle.sheet.specs.Sheet.{editions}
use Rattle.sheet_reading.proofs.Judging.{Judging}
use Rattle.sheet_reading.proofs.judge_items.Given as goal

abbrev pub invariant-loop-found : goal.invariant-loop-found
invariant-loop-found l = (l.found-iterator.sheet.now ≡ l.sheet) × Judging editions l.sheet l.most l.found-iterator.at l.lines l.words l.total
