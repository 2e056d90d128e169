-- The checks before two lists are merged, in the terms of Merging. Assumes nothing.
use Rattle.std.specs.Prelude.{ℕ, ◌≡◌, List, Result, Ok, Err}
use Rattle.std.proofs.Math.Option.{Option, none, some}
use Rattle.refusal.specs.declared.Refusal.{Refusal}
use Rattle.wire.specs.Storage.{Storage, Writes}
use Rattle.loss_list.specs.Compress.{compressed, words}
use Rattle.loss_list.specs.Expand.{items}
use Rattle.loss_list.specs.Walk.{IsSound}
use Rattle.merging.specs.Merging.{union, barred, merging_of}
use Rattle.merging.specs.Theorems.{Words}
use Rattle.merge.specs.Walk.{Ready}
use Rattle.merge.specs.declared.check.Checked.{Checked}

-- words of 32 bits, with no fault of form where the list is judged to be accepted
pub record Judges (ws : List ℕ) (judged : Result ℕ Refusal) : Type 0 where
  pub words : Words ws
  pub sound : (n : ℕ) → judged ≡ Ok n → IsSound (items 0 ws)

-- what checks of which `why` is the refusal, if any, leave: lists that are ready to be walked, and how many words they are merged into
unfoldable pub Admits : Option Refusal → ℕ → List ℕ → List ℕ → Result Checked Refusal → Type 0
Admits why o ws vs (Err q) = why ≡ some q
Admits why o ws vs (Ok m) = (why ≡ none) × Ready o ws vs m.left m.right × (m.words ≡ words (union o ws vs))

-- all the checks
abbrev pub AdmitsAll : ℕ → Result ℕ Refusal → Result ℕ Refusal → List ℕ → List ℕ → Result Checked Refusal → Type 0
AdmitsAll o one other ws vs r = Admits (barred o one other ws vs) o ws vs r

-- where `why` is the refusal, if any, r is the answer on the numbers ns in room for so many words
abbrev pub Merged : {A : Type 0} → Storage A → Option Refusal → List ℕ → ℕ → List A → Result ℕ Refusal → List A → Type 0
Merged S why ns room held r left = Writes S (merging_of why ns room) (compressed ns) held r left
