-- `key_material::judge_write` meets its contract: wrapped keys of a key length are few bytes, so the size of the message fits.
-- Assumes nothing.
use mathlib.Core.Path.{◌∙◌}
use native.Mathlib.Omega.{arith}
use Rattle.key_material.proofs.KeyWritable.{wrap-bound}
use Rattle.key_material.proofs.judge_write.Goals as goal

pub overflow_add-size-2 : goal.overflow_add-size-2
overflow_add-size-2 c = omega (arith, wrap-bound _ _ c.key_count.ensures.1 (λ e. c.if-key_len-eq0.false (c.key_length-key_len.ensures.0 ∙ e)), c.if-salt-gt-SALT_LIMIT.false)
