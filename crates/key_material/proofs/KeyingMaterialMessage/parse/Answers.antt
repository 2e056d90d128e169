-- `key_material::KeyingMaterialMessage::parse` meets its contract: a message that passes has its first sixteen bytes.
-- Assumes nothing.
use mathlib.Core.Path.{sym, ◌∙◌}
use Rattle.key_checks.proofs.KeySound.{sound-of}
use Rattle.key_material.proofs.KeyingMaterialMessage.parse.Goals as goal

pub fields-key-requires : goal.fields-key-requires
fields-key-requires c = (sound-of c.args.buf.now (sym c.judge.ensures ∙ c.in_ok-judge.was)).signed.head
