-- Each block goes after those that stand already. Assumes nothing.
use Prim.Native.Nat.{◌+◌, ◌-◌, ◌*◌, ◌/◌, ◌<◌}
use mathlib.Core.Path.{◌≡◌, sym, ap, ◌∙◌}
use native.Mathlib.Omega.{arith}
use native.Mathlib.Nat.{zero-add}
use lib.ListN.{length, take, drop}
use lib.Seq.{paste}
use Rattle.copy.specs.Pasting.{pasted}
use Rattle.copy.proofs.Stores.{pasted-further}
use Rattle.copy.proofs.put_blocks.Goals as goal

pub loop-i-preserved : goal.loop-i-preserved
loop-i-preserved c =
    let s = c.args.bytes.now in
    let d = c.args.into.now in
    let i = c.loop-i.i in
    let more : i < length s / 64 = omega arith in
    let next : i * 64 + 64 ≡ (i + 1) * 64 = omega arith in
    let part : i * 64 + 64 - i * 64 ≡ 64 = omega arith in
    c.put_block.ensures
    ∙ (λ k. pasted (c.loop-i.invariant k) (sym (zero-add (i * 64)) k) (take (part k) (drop (i * 64) s)))
    ∙ pasted-further d s 0 (i * 64) 64 (omega (arith, c.requires)) (omega arith)
    ∙ ap (paste d 0 s) next
