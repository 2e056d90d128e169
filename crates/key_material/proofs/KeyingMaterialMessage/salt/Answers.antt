-- `key_material::KeyingMaterialMessage::salt` meets its contract: the salt is as long as `salt_length` says.
-- Assumes nothing.
use mathlib.Core.Path.{subst}
use Prim.Native.Nat.{ℕ}
use Rattle.key_checks.specs.KeyChecks.{key_head, key_judged}
use Rattle.key_material.specs.KeyMaterial.{part_from, PartOf}
use Rattle.key_material.proofs.KeyingMaterialMessage.salt.Goals as goal

pub returns : goal.returns
returns c =
    let s = c.args.buf in
    subst (λ (n : ℕ). PartOf s (part_from (key_judged s.now) key_head n s.now) key_head c.part.result) c.salt_length.ensures.0 c.part.ensures
