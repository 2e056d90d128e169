-- `merge` meets its contract: each return is a law of `Merged` at what was checked. Assumes nothing.
use Prim.Native.Nat.{◌≤◌}
use native.Mathlib.Omega.{arith}
use lib.ListN.{length}
use Rattle.merge.proofs.Checking.{handed_on}
use Rattle.merge.proofs.Merged.{merged-refused, ready, merged-no-room, all-fits, merged-done}
use Rattle.merge.proofs.lists.Lists.merge.Goals as goal

pub returns-in_err-checked : goal.returns-in_err-checked
returns-in_err-checked g c = rw (handed_on _ c.from_residual.ensures.1) (merged-refused _ _ _ _ _ _ _ _ _ c.in_err-checked.ensures)

pub returns-then-count-words : goal.returns-then-count-words
returns-then-count-words g c = merged-no-room _ _ _ _ _ _ _ _ _ c.in_ok-checked.ensures (omega (arith, c.count.ensures, c.if-count-words.true))

pub write-requires : goal.write-requires
write-requires g c =
    let held : c.in_ok-checked.checked.words ≤ length (g.C.Cell.words c.args.into.now) = omega (arith, c.count.ensures, c.if-count-words.false) in
    record {
      ready = ready _ _ _ _ _ _ c.in_ok-checked.ensures;
      room = λ some. all-fits _ _ _ _ _ _ _ _ _ c.in_ok-checked.ensures held (g.met.C.Cell.fits _);
    }

pub returns : goal.returns
returns g c =
    let held : c.in_ok-checked.checked.words ≤ length (g.C.Cell.words c.args.into.now) = omega (arith, c.count.ensures, c.if-count-words.false) in
    merged-done _ _ _ _ _ _ _ _ _ c.in_ok-checked.ensures held
    (c.write.ensures.fills (all-fits _ _ _ _ _ _ _ _ _ c.in_ok-checked.ensures held (g.met.C.Cell.fits _)))
