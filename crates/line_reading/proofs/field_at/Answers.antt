-- `field_at` meets its contract: a tab, and the number after it. Assumes nothing.
use mathlib.Core.Path.{sym, ◌∙◌}
use Rattle.line_reading.proofs.Reading.{field-untabbed, field-number}
use Rattle.line_reading.proofs.field_at.Goals as goal

pub returns-then-byte_at-ne-TAB : goal.returns-then-byte_at-ne-TAB
returns-then-byte_at-ne-TAB c = field-untabbed _ _ (λ e. c.if-byte_at-ne-TAB.true (c.byte_at.ensures ∙ e))

pub returns : goal.returns
returns c = field-number _ _ (sym c.byte_at.ensures ∙ c.if-byte_at-ne-TAB.false) c.number_at.ensures
