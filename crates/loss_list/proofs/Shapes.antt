-- The six ways in which a list of words is read: what holds of a list's items is shown by going through them. Assumes nothing.
use mathlib.Core.Path.{◌≡◌, refl, sym, subst}
use mathlib.Core.Bool.{Bool, true, false}
use mathlib.Core.List.{List, [], ◌∷◌}
use Prim.Native.Nat.{ℕ, ◌+◌, ◌-◌, ◌^◌, ◌<◌, ◌≤◌}
use borrow.Author.Tests.{leb-true, leb-false}
use Rattle.refusal.specs.declared.Refusal.TheVariants.{OpenRange, FlaggedEnd, BackwardRange}
use Rattle.loss_list.specs.Run.{flagged, precedes}
use Rattle.loss_list.specs.Expand.{Parsed, Sound, Faulty, keep, lone, ranged, items}
use Rattle.loss_list.proofs.Items.{plain, open-range, flagged-end, backward-range, sound-range}

pub data Shape : ℕ → List ℕ → Parsed → Type 0 where
  nothing : {p : ℕ} → Shape p [] (Sound [])
  number : {p w : ℕ} {ws : List ℕ} {ps : Parsed} → w < 2 ^ 31 → Shape (p + 1) ws ps → Shape p (w ∷ ws) (keep (lone p w) ps)
  range : {p w e : ℕ} {ws : List ℕ} {ps : Parsed} → 2 ^ 31 ≤ w → e < 2 ^ 31 → precedes (w - 2 ^ 31) e ≡ true → Shape (p + 2) ws ps → Shape p (w ∷ e ∷ ws) (keep (ranged p (w - 2 ^ 31) e) ps)
  unclosed : {p w : ℕ} → 2 ^ 31 ≤ w → Shape p (w ∷ []) (Faulty (OpenRange p))
  overflagged : {p w e : ℕ} {ws : List ℕ} → 2 ^ 31 ≤ w → 2 ^ 31 ≤ e → Shape p (w ∷ e ∷ ws) (Faulty (FlaggedEnd (p + 1)))
  backward : {p w e : ℕ} {ws : List ℕ} → 2 ^ 31 ≤ w → e < 2 ^ 31 → precedes (w - 2 ^ 31) e ≡ false → Shape p (w ∷ e ∷ ws) (Faulty (BackwardRange (p + 1)))

-- every list is read in one of them
pub shape : (p : ℕ) (ws : List ℕ) → Shape p ws (items p ws)
unfolding items
shape p [] = nothing
shape p (w ∷ []) = go (flagged w) refl
  where
    go : (b : Bool) → flagged w ≡ b → Shape p (w ∷ []) (items p (w ∷ []))
    go true f = rw (open-range p w (leb-true (2 ^ 31) w f)) (unclosed (leb-true (2 ^ 31) w f))
    go false f = rw (plain p w [] (leb-false (2 ^ 31) w f)) (number (leb-false (2 ^ 31) w f) nothing)
shape p (w ∷ e ∷ ws) = go (shape (p + 1) (e ∷ ws)) (shape (p + 2) ws) (flagged w) refl (flagged e) refl (precedes (w - 2 ^ 31) e) refl
  where
    go : Shape (p + 1) (e ∷ ws) (items (p + 1) (e ∷ ws)) → Shape (p + 2) ws (items (p + 2) ws) → (b : Bool) → flagged w ≡ b → (c : Bool) → flagged e ≡ c → (d : Bool) → precedes (w - 2 ^ 31) e ≡ d → Shape p (w ∷ e ∷ ws) (items p (w ∷ e ∷ ws))
    go next rest false f c g d h = subst (Shape p (w ∷ e ∷ ws)) (sym (plain p w (e ∷ ws) (leb-false (2 ^ 31) w f))) (number (leb-false (2 ^ 31) w f) next)
    go next rest true f true g d h =
        subst (Shape p (w ∷ e ∷ ws)) (sym (flagged-end p w e ws (leb-true (2 ^ 31) w f) (leb-true (2 ^ 31) e g))) (overflagged (leb-true (2 ^ 31) w f) (leb-true (2 ^ 31) e g))
    go next rest true f false g true h =
        subst (Shape p (w ∷ e ∷ ws)) (sym (sound-range p w e ws (leb-true (2 ^ 31) w f) (leb-false (2 ^ 31) e g) h)) (range (leb-true (2 ^ 31) w f) (leb-false (2 ^ 31) e g) h rest)
    go next rest true f false g false h =
        subst (Shape p (w ∷ e ∷ ws)) (sym (backward-range p w e ws (leb-true (2 ^ 31) w f) (leb-false (2 ^ 31) e g) h)) (backward (leb-true (2 ^ 31) w f) (leb-false (2 ^ 31) e g) h)
