-- `xez_why_lost` meets its contract: what is said of the number, packed. Assumes nothing.
use mathlib.Core.Path.{ap, ◌∙◌}
use Rattle.std.specs.Prelude.{Ok}
use Rattle.relay.proofs.Packs.{packs-lost, packs-not-lost, packs-unanswered}
use Rattle.relay.proofs.lost.xez_why_lost.Goals as goal

pub returns-in-Ok-Some : goal.returns-in-Ok-Some
returns-in-Ok-Some c = packs-lost _ _ c.why_lost_bytes.ensures (c.in-Ok-Some.is ∙ ap Ok c.in-Ok-Some.field-0-is)

pub returns-in-Ok-None : goal.returns-in-Ok-None
returns-in-Ok-None c = packs-not-lost _ _ c.why_lost_bytes.ensures (c.in-Ok-None.is ∙ ap Ok c.in-Ok-None.field-0-is)

pub returns-in-Err : goal.returns-in-Err
returns-in-Err c = packs-unanswered _ _ c.why_lost_bytes.ensures c.in-Err.is c.pack.ensures
