-- `sheet_into` meets its contract: a turn writes one item's line after what stands already, by the laws of `Writing`. Assumes nothing.
use Rattle.sheet.specs.Sheet.{edition}
use Rattle.sheet_writing.specs.Walk.{lines_left}
use Rattle.sheet_writing.proofs.Writing.{Printing}
use Rattle.sheet_writing.proofs.sheet_into.Given as goal

abbrev pub invariant-loop-line : goal.invariant-loop-line
invariant-loop-line l = Printing edition l.judged.list.now l.judged.count l.initial.into l.into l.out (lines_left l.line-iterator)
