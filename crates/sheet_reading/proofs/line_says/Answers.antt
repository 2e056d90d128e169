-- `line_says` meets its contract: what is known of the line says which case this is. Assumes nothing.
use Rattle.sheet_reading.proofs.Judging.{says-gaps, says-end}
use Rattle.sheet_reading.proofs.line_says.Goals as goal

pub returns-in-Gaps : goal.returns-in-Gaps
returns-in-Gaps c = says-gaps c.in-Gaps.is

pub returns-in-End : goal.returns-in-End
returns-in-End c = says-end c.in-End.is
