-- `sheet_length` meets its contract: a turn counts one item's line, by the laws of `Writing`. Assumes nothing.
use Rattle.sheet.specs.Sheet.{edition}
use Rattle.sheet_writing.specs.Walk.{lines_left}
use Rattle.sheet_writing.proofs.Writing.{Measuring}
use Rattle.sheet_writing.proofs.sheet_length.Given as goal

abbrev pub invariant-loop-line : goal.invariant-loop-line
invariant-loop-line l = Measuring edition l.judged.list.now l.judged.count l.bytes (lines_left l.line-iterator)
