-- What the private functions of this crate promise, in the terms of Sheet. Assumes nothing.
use Rattle.std.specs.Prelude.{ℕ, List, ◌++◌, drop}
use Rattle.loss_list.specs.Expand.{items, items_of}
use Rattle.sheet_line.specs.Text.{text}
use Rattle.sheet_line.specs.declared.Line.{Line}
use Rattle.sheet_line.specs.declared.Line.TheVariants.{End}
use Rattle.sheet.specs.Sheet.{Edition, first_line, item_lines, texts}
use Rattle.sheet_writing.specs.declared.Lines.{Lines}

-- the lines of the items of ws from place i on; a list with a fault has none
abbrev pub lines_from : List ℕ → ℕ → List Line
lines_from ws i = item_lines (items_of (items i (drop i ws)))

abbrev pub lines_left : Lines → List Line
lines_left s = lines_from s.list.now s.place

-- a sheet's text: its first line, its items, and the last line, for a list that stands for n numbers
abbrev pub sheet_text : Edition → List ℕ → ℕ → List ℕ
sheet_text E ws n = text (first_line E) ++ (texts (lines_from ws 0) ++ text (End n))
