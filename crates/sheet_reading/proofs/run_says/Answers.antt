-- `run_says` meets its contract: both ends are below 2^31, and the first is Less than the last. Assumes nothing.
use mathlib.Core.Path.{◌≡◌, sym, ◌∙◌}
use mathlib.Core.Bool.{true, false}
use Prim.Native.Nat.{ℕ}
use native.Mathlib.Omega.{arith}
use Rattle.loss_list.specs.Run.{precedes}
use Rattle.sheet_reading.proofs.Judging.{says-run, says-no-run}
use Rattle.sheet_reading.proofs.run_says.Goals as goal

pub returns-then-from-first : goal.returns-then-from-first
returns-then-from-first c = says-no-run _ _ (λ h. omega (arith, h.0))

pub returns-then-from-last : goal.returns-then-from-last
returns-then-from-last c = says-no-run _ _ (λ h. omega (arith, h.1.0))

pub returns-then-lt : goal.returns-then-lt
unfolding precedes
returns-then-lt c = says-run _ _ _ (omega arith) (omega arith) (sym c.lt.ensures ∙ c.if-lt.true) c.distance.ensures

pub returns : goal.returns
unfolding precedes
returns c = says-no-run _ _ (λ h.
    let less : true ≡ false = sym h.1.1 ∙ sym c.lt.ensures ∙ c.if-lt.false in
    let z : ◌≡◌ {A = ℕ} 0 1 = cc in
    omega arith)
