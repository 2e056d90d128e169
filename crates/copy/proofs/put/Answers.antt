-- `copy::put` meets its contract: the last block, and then all whole blocks, which reach to where it begins. Assumes nothing.
use mathlib.Core.Path.{sym, ap, ◌∙◌}
use mathlib.Core.List.{List}
use native.Mathlib.Omega.{arith}
use Prim.Native.Nat.{ℕ, ◌/◌, ◌*◌, ◌-◌}
use native.Mathlib.Nat.{zero-add}
use borrow.Author.Tests.{lt-ltb}
use lib.ListN.{length, drop, length-drop}
use lib.Seq.{take_all}
use Rattle.copy.specs.Pasting.{pasted, whole_blocks}
use Rattle.copy.proofs.Stores.{in-front, overlaid}
use Rattle.wire.proofs.Lent.{placed-fits}
use Rattle.copy.proofs.put.Goals as goal

pub returns-then-into-bytes : goal.returns-then-into-bytes
returns-then-into-bytes c = simp (lt-ltb _ _ c.if-into-bytes.true)

pub returns-then-bytes-lt-BLOCK : goal.returns-then-bytes-lt-BLOCK
returns-then-bytes-lt-BLOCK c =
    let start = c in
    c.put_bytes.ensures
    ∙ in-front start.args.into.now start.args.bytes.now
    ∙ sym (placed-fits start.args.bytes.now start.args.into.now (omega arith))

pub returns : goal.returns
returns c =
    let at-blocks = c in
    let at_block = at-blocks in
    let start = c in
    let into = start.args.into.now in
    let p = start.args.bytes.now in
    let rest = length p - 64 in
    let last = take_all (length p - rest) (drop rest p) (omega (arith, length-drop rest p)) in
    at-blocks.put_blocks.ensures
    ∙ ap (λ (l : List ℕ). pasted l 0 (whole_blocks p)) (at_block.put_block.ensures ∙ (λ i. pasted into (sym (zero-add rest) i) (last i)))
    ∙ overlaid into p 0 rest (length p / 64 * 64) (omega arith) (omega arith) (omega arith)
    ∙ in-front into p
    ∙ sym (placed-fits p into (omega arith))
