-- The first look at a list: what the items so far leave to be said by those that are left. Assumes nothing.
use mathlib.Core.Path.{◌≡◌, refl, sym, ap, subst, ◌∙◌}
use mathlib.Core.Bool.{Bool, true, false, cond}
use mathlib.Core.List.{List, []}
use Rattle.std.specs.Prelude.{Ok, Err}
use Prim.Native.Nat.{ℕ, ◌+◌, ◌<◌, ◌≤◌}
use native.Mathlib.Omega.{arith}
use borrow.Author.Tests.{leb-true}
use lib.Dec.{leb}
use lib.ListN.{length}
use Rattle.ring.specs.Ring.{half}
use Rattle.merging.specs.Merging.{first_outside, placed, outside}
use Rattle.refusal.specs.declared.Refusal.TheVariants.{OutsideWindow}
use Rattle.spans.specs.Spans.{ItemAt, items_from, InTurn}
use Rattle.spans.specs.declared.Span.{Span}
use Rattle.spans.proofs.Spans.{no_items, outside-here, outside-later}
use Rattle.merge.specs.Walk.{Fits, Sees}

-- no item before place i lies outside the window; where they stand in turn, so does the whole list if those from i on do, of which the first begins at `before` or later
pub record Looking (o : ℕ) (ws : List ℕ) (ordered : Bool) (before i : ℕ) : Type 0 where
  pub same : first_outside o (items_from ws i) ≡ first_outside o (items_from ws 0)
  pub fit : Fits o (items_from ws i) → Fits o (items_from ws 0)
  pub turns : ordered ≡ true → InTurn o before (items_from ws i) → InTurn o 0 (items_from ws 0)

module _ {o : ℕ} {ws : List ℕ} {ordered : Bool} {before i : ℕ} (x : Looking o ws ordered before i) where
  module _ {s : Span} (a : ItemAt o ws i s) where
    pub sees-outside : half 31 ≤ s.to → Sees o ws (Err (OutsideWindow i))
    unfolding Sees outside placed
    sees-outside h = ap placed (sym x.same ∙ outside-here a h)

    in-turn : before ≤ s.from → InTurn o s.from (items_from ws (i + s.words)) → InTurn o before (items_from ws i)
    in-turn h t = subst (InTurn o before) (sym a.here) (omega (arith, a.from), subst (λ (d : ℕ). InTurn o d (items_from ws (i + s.words))) a.from t)

    fits-with : s.to < half 31 → Fits o (items_from ws (i + s.words)) → Fits o (items_from ws i)
    fits-with l f = subst (Fits o) (sym a.here) (a.first-in, omega (arith, a.from, a.to), f)

    pub looking-on : s.to < half 31 → {still : Bool} → still ≡ cond (leb before s.from) ordered false → Looking o ws still s.from (i + s.words)
    looking-on l {still} q = record { same = sym (outside-later a l) ∙ x.same; fit = λ f. x.fit (fits-with l f); turns = go (leb before s.from) refl q }
      where
        go : (b : Bool) → leb before s.from ≡ b → still ≡ cond b ordered false → still ≡ true → InTurn o s.from (items_from ws (i + s.words)) → InTurn o 0 (items_from ws 0)
        go true h q e t = x.turns (sym q ∙ e) (in-turn (leb-true before s.from h) t)
        go false h q e t = absurd (let clash = sym q ∙ e in let z : ◌≡◌ {A = ℕ} 0 1 = cc in omega arith)

  pub sees-inside : length ws ≤ i → Sees o ws (Ok ordered)
  unfolding Sees first_outside outside placed
  sees-inside h =
      let over : items_from ws i ≡ [] = no_items ws i h in
      (ap placed (sym x.same ∙ ap (first_outside o) over), x.fit (subst (Fits o) (sym over) tt), λ e. x.turns e (subst (InTurn o before) (sym over) tt))
