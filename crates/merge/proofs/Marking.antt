-- Marks: whatever is marked stands for a number of the list, so that numbers marked one after the other are covered. Assumes nothing.
use mathlib.Core.Path.{◌≡◌}
use mathlib.Core.Bool.{Bool, true, false}
use mathlib.Core.List.{List}
use mathlib.Core.Logic.{◌⊎◌, inl, inr}
use Prim.Native.Nat.{ℕ, ◌+◌, ◌-◌, ◌<◌, ◌≤◌}
use native.Mathlib.Omega.{arith}
use lib.ListN.{get_or}
use Rattle.ring.specs.Ring.{half}
use Rattle.loss_list.specs.Expand.{expanded}
use Rattle.spans.specs.declared.Span.{Span}
use Rattle.spans.specs.Spans.{ItemAt}
use Rattle.merging.specs.Steps.{picks}
use Rattle.merge.specs.Walk.{Whole, Sets, Marks}
use Rattle.merge.proofs.Finding.{Left, left-whole, left-on, item-there, inside}

module _ (o : ℕ) (ws : List ℕ) (at : ℕ) where
  pub record Marking (before seen : List Bool) (i : ℕ) : Type 0 where
    pub left : Left o ws at i
    pub marks : Marks o ws at before seen

  pub marking-start : Whole o ws → (before : List Bool) → Marking before before 0
  marking-start x before = record { left = left-whole o ws at x; marks = record { only = λ k e. inl e } }

  pub marking-on : {before seen : List Bool} {i : ℕ} → Marking before seen i → {seen' : List Bool} {sp : Span} → ItemAt o ws i sp
      → Sets (sp.from - at) (sp.to + 1 - at) seen seen' → Marking before seen' (i + sp.words)
  marking-on {before} {seen} {i} x {seen'} {sp} a m = record { left = left-on o ws at x.left a; marks = record { only = λ k e. go k (m.only k e) } }
    where
      go : (k : ℕ) → (get_or seen k false ≡ true) ⊎ ((sp.from - at ≤ k) × (k < sp.to + 1 - at)) → (get_or before k false ≡ true) ⊎ ((picks o (expanded ws) (at + k) ≡ true) × (at + k < half 31))
      go k (inl e) = x.marks.only k e
      go k (inr h) =
          let near = inside o ws at x.left a in
          inr (x.left.part (at + k) (omega arith) (omega arith) (item-there o ws at x.left a (at + k) (omega arith) (omega arith) (omega arith)), omega arith)
