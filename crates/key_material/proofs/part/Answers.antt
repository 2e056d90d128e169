-- `key_material::part` meets its contract: a message that passes holds all the bytes that it uses.
-- Assumes nothing.
use mathlib.Core.Path.{sym, ◌∙◌}
use native.Mathlib.Omega.{arith}
use Rattle.key_checks.proofs.KeySound.{sound-of}
use Rattle.key_material.proofs.part.Goals as goal

pub slice_bounds-result-end : goal.slice_bounds-result-end
slice_bounds-result-end c = let sound = sound-of c.args.buf.now (sym c.judge.ensures ∙ c.in-Ok.is) in omega (arith, sound.whole)
