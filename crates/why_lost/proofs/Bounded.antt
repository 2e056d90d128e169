-- What an answer about bytes holds is small: a place is below the limit, and what a refusal carries fits 32 bits. Assumes nothing.
use Rattle.std.specs.Prelude.{Some, Ok, Err}
use mathlib.Core.Path.{◌≡◌, sym, ◌∙◌}
use mathlib.Core.List.{List}
use mathlib.Core.Logic.{◌⊎◌, inl, inr}
use Prim.Native.Nat.{ℕ, ◌^◌, ◌<◌}
use native.Mathlib.Omega.{arith}
use Rattle.refusal.specs.Refusal.{carried_by}
use Rattle.refusal.specs.declared.Refusal.{Refusal}
use Rattle.refusal.specs.declared.Refusal.TheVariants.{NotSequence}
use Rattle.wire.specs.Bytes.{in_words}
use Rattle.loss_list.specs.Run.{limit}
use Rattle.loss_list.specs.Expand.{items}
use Rattle.loss_list.specs.InBytes.{judgement_bytes}
use Rattle.loss_list.proofs.Expands.{judged-numbers, judged-words}
use Rattle.loss_list.proofs.Bounded.{judgement-bytes-small}
use Rattle.why_lost.specs.WhyLost.{why_lost_bytes}
use Rattle.why_lost.proofs.Asking.{admits-only, barred-by, asked_of, refused-of}
use Rattle.why_lost.proofs.Theorems.{lost-place, lost-in-bytes}

module _ (bs : List ℕ) (n : ℕ) where
  pub lost-bytes-place : {p : ℕ} → why_lost_bytes bs n ≡ Ok (Some p) → p < limit
  lost-bytes-place {p} e =
      let judged = judged-words bs (admits-only (judgement_bytes bs) n (asked_of (judgement_bytes bs) (items 0 (in_words bs)) n (Some p) e).1).1 in
      omega (arith, lost-place (in_words bs) n p (sym ((lost-in-bytes bs n).0 judged.0) ∙ e), (judged-numbers (in_words bs) judged.1).0)

  pub lost-bytes-small : {r : Refusal} → why_lost_bytes bs n ≡ Err r → carried_by r < 2 ^ 32
  lost-bytes-small {r} e = go (barred-by (judgement_bytes bs) n r (refused-of (judgement_bytes bs) (items 0 (in_words bs)) n r e))
    where
      go : (judgement_bytes bs ≡ Err r) ⊎ (r ≡ NotSequence 0) → carried_by r < 2 ^ 32
      go (inl h) = judgement-bytes-small bs (sym h)
      go (inr h) = rw h (omega arith)
