-- What the compressor writes is a list as the draft has it: each run is a number, two of them, or a range of three up.
-- Assumes nothing.
use Rattle.std.specs.Prelude.{Ok}
use mathlib.Core.Path.{◌≡◌, sym}
use mathlib.Core.List.{List, [], ◌∷◌, ◌++◌}
use Prim.Native.Nat.{ℕ, zero, suc, ◌^◌, ◌<◌}
use native.Mathlib.Omega.{arith}
use Rattle.ring.specs.Ring.{after, half}
use Rattle.loss_list.specs.Run.{Run}
use Rattle.loss_list.specs.Compress.{runs, coded, coded_runs, compressed, compressing}
use Rattle.loss_list.proofs.Ranges.{coded-lone, coded-pair, coded-range}
use Rattle.loss_list.proofs.Precedes.{steps_back}
use Rattle.demand.specs.Draft.{Drafted, empty, word, range}
use Rattle.demand.proofs.Accepts.{written-compressible}
use Rattle.demand.proofs.Return.{InRing, runs-in-ring}

coded-drafted : (first steps : ℕ) {ws : List ℕ} → first < 2 ^ 31 → steps < half 31 → Drafted ws → Drafted (coded first steps ++ ws)
coded-drafted first zero l h d = rw (coded-lone first) (word l d)
coded-drafted first (suc zero) l h d = rw (coded-pair first) (word l (word {w = after 31 first 1} (omega arith) d))
coded-drafted first (suc (suc n)) l h d =
    let steps : ℕ = suc (suc n) in
    let apart = steps_back first steps (omega arith) in
    rw (coded-range first n) (range first {last = after 31 first steps} (omega arith) (omega (arith, apart)) (omega (arith, apart)) d)

runs-drafted : (rs : List Run) → InRing rs → Drafted (coded_runs rs)
unfolding coded_runs
runs-drafted [] h = empty
runs-drafted (r ∷ rs) h = coded-drafted r.first r.steps h.0 h.1 (runs-drafted rs h.2)

-- A range of a compressed list is never of two numbers.
pub as_drafted : (xs : List ℕ) (room : ℕ) {n : ℕ} → compressing xs room ≡ Ok n → Drafted (compressed xs)
unfolding compressed
as_drafted xs room e =
    let c = written-compressible xs room (sym e) in
    runs-drafted (runs xs) (runs-in-ring xs c.numbers-within c.increasing)
