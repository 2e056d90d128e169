-- No answer is ambiguous: C finds 0 in the upper half of every accepted one, and in that of every refusal its number, which is never 0 (`number_in`); in the lower
-- half it finds the value, or what the refusal carries. The value where a number is not lost is none that a place has. Assumes nothing.
use Rattle.std.specs.Prelude.{Some, Ok, Err}
use mathlib.Core.Path.{◌≡◌}
use mathlib.Core.List.{List}
use Prim.Native.Nat.{ℕ, ◌<◌}
use native.Mathlib.Omega.{arith}
use Rattle.refusal.specs.declared.Refusal.{Refusal}
use Rattle.refusal.specs.Refusal.{number_of, carried_by}
use Rattle.loss_list.specs.InBytes.{compressing_bytes, expanding_bytes}
use Rattle.loss_list.proofs.Bounded.{written-bytes-small, numbers-bytes-small, compressing-bytes-small, expanding-bytes-small}
use Rattle.loss_list.proofs.Limits.{limit_is}
use Rattle.merging.specs.Merging.{merging_bytes}
use Rattle.merging.proofs.Bounded.{merging-bytes-small, merged-bytes-small}
use Rattle.why_lost.specs.WhyLost.{why_lost_bytes}
use Rattle.why_lost.proofs.Bounded.{lost-bytes-place, lost-bytes-small}
use Rattle.relay.specs.Lost.{not_lost}
use Rattle.answer.specs.Packed.{packed, Halves}
use Rattle.answer.proofs.Halves.{accepted-halves, refused-halves}

module _ (bs : List ℕ) (room : ℕ) where
  pub words-unpack : {n : ℕ} → Ok n ≡ compressing_bytes bs room → Halves n 0 n
  words-unpack {n} e = accepted-halves n (written-bytes-small bs room e)

  pub unwritten-unpack : {r : Refusal} → Err r ≡ compressing_bytes bs room → Halves (packed r) (number_of r) (carried_by r)
  unwritten-unpack {r} e = refused-halves r (compressing-bytes-small bs room e)

  pub numbers-unpack : {n : ℕ} → Ok n ≡ expanding_bytes bs room → Halves n 0 n
  numbers-unpack {n} e = accepted-halves n (numbers-bytes-small bs room e)

  pub refused-unpack : {r : Refusal} → Err r ≡ expanding_bytes bs room → Halves (packed r) (number_of r) (carried_by r)
  refused-unpack {r} e = refused-halves r (expanding-bytes-small bs room e)

pub place-unpack : (bs : List ℕ) (n : ℕ) {p : ℕ} → why_lost_bytes bs n ≡ Ok (Some p) → Halves p 0 p × (p < not_lost)
place-unpack bs n {p} e =
    let small = lost-bytes-place bs n e in
    (accepted-halves p (omega (arith, limit_is)), omega (arith, limit_is))

pub not-lost-unpack : Halves not_lost 0 not_lost
not-lost-unpack = accepted-halves not_lost (omega arith)

pub unanswered-unpack : (bs : List ℕ) (n : ℕ) {r : Refusal} → why_lost_bytes bs n ≡ Err r → Halves (packed r) (number_of r) (carried_by r)
unanswered-unpack bs n {r} e = refused-halves r (lost-bytes-small bs n e)

module _ (o : ℕ) (bs cs : List ℕ) (room : ℕ) where
  pub merged-unpack : {n : ℕ} → Ok n ≡ merging_bytes o bs cs room → Halves n 0 n
  merged-unpack {n} e = accepted-halves n (merged-bytes-small o bs cs room e)

  pub unmerged-unpack : {r : Refusal} → Err r ≡ merging_bytes o bs cs room → Halves (packed r) (number_of r) (carried_by r)
  unmerged-unpack {r} e = refused-halves r (merging-bytes-small o bs cs room e)
