-- `key_material::put_parts` meets its contract: the head stands in front, and each part is lent the bytes after what is written.
-- Assumes nothing.
use mathlib.Core.Path.{refl}
use Rattle.key_material.proofs.Parts.{three-parts}
use Rattle.key_material.proofs.put_parts.Goals as goal

pub returns : goal.returns
returns c =
    let wrapped-put = c in
    let salt-put = wrapped-put in
    let head-put = salt-put in
    let start = head-put in
    let a = start.args in
    three-parts a.head.now a.salt.now a.wrapped.now a.into.now start.requires
    head-put.put.ensures salt-put.put-2.ensures refl wrapped-put.put-3.ensures refl
