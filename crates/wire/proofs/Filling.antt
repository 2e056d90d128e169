-- A buffer that is filled from its front: one law for a store serves every walk that writes.
-- Assumes nothing.
use mathlib.Core.Path.{◌≡◌, refl, sym, ap, ◌∙◌}
use mathlib.Core.List.{List, [], ◌∷◌, ◌++◌, append_assoc, append-nil}
use Prim.Native.Nat.{ℕ, ◌+◌, ◌<◌, ◌≤◌}
use native.Mathlib.Numerals.{add-one}
use native.Mathlib.Omega.{arith}
use lib.ListN.{length, take, drop, set, length-append, length-drop, length-set, take-append-drop}
use lib.Seq.{length-take-le, take-suc-set, drop-set-lt, drop-drop, append_snoc, take_at, drop_at}
use Rattle.wire.specs.Storage.{Filling}

pub filling-start : {A : Type 0} (held all : List A) → Filling held held 0 all all
filling-start held all = record { fits = omega arith; whole = refl; kept = refl; long = refl }

-- a part of what is to be written, put after what stands already
pub filling-part : {A : Type 0} (held : List A) (out : ℕ) (rest : List A) → out ≤ length held → Filling held held out rest (take out held ++ rest)
filling-part held out rest h = record { fits = h; whole = refl; kept = refl; long = refl }

module _ {A : Type 0} {held₀ held : List A} {out : ℕ} {rest all : List A} (f : Filling held₀ held out rest all) where
  -- what is written and what is to be written is all of it
  pub filling-length : out + length rest ≡ length all
  filling-length = ap (λ (n : ℕ). n + length rest) (sym (length-take-le out held f.fits)) ∙ sym (length-append (take out held) rest) ∙ ap length f.whole

module _ {A : Type 0} {held₀ held : List A} {out : ℕ} {v : A} {rest all : List A} (f : Filling held₀ held out (v ∷ rest) all) (room : length all ≤ length held₀) where
  pub filling-room : out < length held
  filling-room = omega (arith, filling-length f, f.long)

  pub filling-put : Filling held₀ (set held out v) (out + 1) rest all
  filling-put =
      record {
        fits = rw (length-set held out v) (omega (arith, filling-room));
        whole = ap (λ (n : ℕ). take n (set held out v) ++ rest) (add-one out) ∙ ap (λ (l : List A). l ++ rest) (take-suc-set held out v filling-room) ∙ append_snoc (take out held) v rest ∙ f.whole;
        kept = drop-set-lt (out + 1) held out v (omega arith) ∙ sym (drop-drop 1 out held) ∙ ap (drop 1) f.kept ∙ drop-drop 1 out held₀;
        long = length-set held out v ∙ f.long;
      }

-- nothing is left to write
written : {A : Type 0} {held₀ held : List A} {out : ℕ} {all : List A} → Filling held₀ held out [] all → take out held ≡ all
written f = sym (append-nil _) ∙ f.whole

pub filling-done : {A : Type 0} {held₀ held : List A} {out : ℕ} {all : List A} → Filling held₀ held out [] all → held ≡ all ++ drop (length all) held₀
filling-done {A} {held₀} {held} {out} {all} f =
    let here : out ≡ length all = omega (arith, filling-length f) in
    sym (take-append-drop out held) ∙ ap (λ (l : List A). l ++ drop out held) (written f) ∙ ap (λ (l : List A). all ++ l) (f.kept ∙ ap (λ (n : ℕ). drop n held₀) here)

-- a part that is written whole, within a larger filling
pub filling-then : {A : Type 0} (part : List A) {held₀ held₁ held : List A} {out₁ out : ℕ} {rest all : List A} → Filling held₀ held₁ out₁ (part ++ rest) all → Filling held₁ held out [] (take out₁ held₁ ++ part) → Filling held₀ held out rest all
filling-then {A} part {held₀} {held₁} {held} {out₁} {out} {rest} {all} f g =
    let here : out₁ + length part ≡ out = omega (arith, filling-length g, length-append (take out₁ held₁) part, length-take-le out₁ held₁ f.fits) in
    record {
      fits = g.fits;
      whole = ap (λ (l : List A). l ++ rest) (written g) ∙ append_assoc (take out₁ held₁) part rest ∙ f.whole;
      kept = g.kept ∙ ap (λ (n : ℕ). drop n held₁) (sym here) ∙ sym (drop-drop (length part) out₁ held₁) ∙ ap (drop (length part)) f.kept ∙ drop-drop (length part) out₁ held₀ ∙ ap (λ (n : ℕ). drop n held₀) here;
      long = g.long ∙ f.long;
    }

-- a part that is put in the place of as many elements
pub filling-pasted : {A : Type 0} {held₀ held : List A} {out : ℕ} (part : List A) {rest all left : List A} → Filling held₀ held out (part ++ rest) all → length all ≤ length held₀
    → left ≡ take out held ++ (part ++ drop (out + length part) held) → Filling held₀ left (out + length part) rest all
filling-pasted {A} {held₀} {held} {out} part {rest} {all} {left} f room e =
    let reach : out + length part ≤ length held = omega (arith, filling-length f, length-append part rest, f.long) in
    let front : length (take out held ++ part) ≡ out + length part = length-append (take out held) part ∙ ap (λ (n : ℕ). n + length part) (length-take-le out held f.fits) in
    let apart : left ≡ (take out held ++ part) ++ drop (out + length part) held = e ∙ sym (append_assoc (take out held) part (drop (out + length part) held)) in
    let as_long : length left ≡ length held = omega (arith, ap length apart, length-append (take out held ++ part) (drop (out + length part) held), front, length-drop (out + length part) held) in
    record {
      fits = omega arith;
      whole = ap (λ (l : List A). take (out + length part) l ++ rest) apart
          ∙ ap (λ (l : List A). l ++ rest) (take_at (take out held ++ part) (drop (out + length part) held) (out + length part) front)
          ∙ append_assoc (take out held) part rest
          ∙ f.whole;
      kept = ap (drop (out + length part)) apart
          ∙ drop_at (take out held ++ part) (drop (out + length part) held) (out + length part) front
          ∙ sym (drop-drop (length part) out held)
          ∙ ap (drop (length part)) f.kept
          ∙ drop-drop (length part) out held₀;
      long = as_long ∙ f.long;
    }
