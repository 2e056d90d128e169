-- Each byte goes after those that stand already. Assumes nothing.
use Prim.Native.Nat.{ℕ, ◌+◌, ◌<◌}
use mathlib.Core.List.{List}
use mathlib.Core.Path.{sym, ap, ◌∙◌}
use native.Mathlib.Omega.{arith}
use native.Mathlib.Numerals.{add-one}
use lib.ListN.{length, get_or, set}
use lib.Seq.{paste, paste-suc}
use Rattle.copy.proofs.put_bytes.Goals as goal

pub loop-i-preserved : goal.loop-i-preserved
loop-i-preserved c =
    let s = c.args.bytes.now in
    let d = c.args.into.now in
    let at = c.args.at in
    let i = c.loop-i.i in
    let more : i < length s = omega arith in
    let room : at + i < length d = omega (arith, c.requires) in
    ap (λ (l : List ℕ). set l (at + i) (get_or s i 0)) c.loop-i.invariant ∙ paste-suc d at s i 0 room more ∙ ap (paste d at s) (sym (add-one i))
