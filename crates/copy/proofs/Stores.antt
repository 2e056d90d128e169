-- What pastes leave in a buffer. A list pasted by its last elements first and then by its first ones, which may overlap, is pasted whole.
-- Assumes nothing.
use Prim.Native.Nat.{ℕ, ◌+◌, ◌-◌, ◌≤◌}
use mathlib.Core.List.{List, ◌++◌, append_assoc}
use mathlib.Core.Path.{◌≡◌, sym, ap, ◌∙◌}
use native.Mathlib.Omega.{arith}
use native.Mathlib.Nat.{zero-add, add-sub_of_le}
use lib.ListN.{length, take, drop, length-append, length-drop, take-append-drop}
use lib.Seq.{take-take, take-append-le, length-take-le, drop-append-add, drop-append-le, drop-drop, take-add, paste, take-paste, drop-paste}
use Rattle.copy.specs.Pasting.{pasted}

-- a paste from the start on
pub in-front : (held bs : List ℕ) → pasted held 0 bs ≡ bs ++ drop (length bs) held
in-front held bs = ap (λ (n : ℕ). bs ++ drop n held) (zero-add (length bs))

module _ (l p : List ℕ) (at k m : ℕ) (reach : k ≤ m) (within : m ≤ length p) (room : at + length p ≤ length l) where
  tail : List ℕ
  tail = drop (at + length p) l

  front_length : length (take (at + k) l) ≡ at + k
  front_length = length-take-le (at + k) l (omega arith)

  tail-length : at + k + length (drop k p) ≡ at + length p
  tail-length = omega (arith, length-drop k p)

  front : List ℕ
  front = take (at + k) l ++ drop k p

  once : List ℕ
  once = pasted l (at + k) (drop k p)

  whole_length : length front ≡ at + length p
  unfolding front
  whole_length = omega (arith, length-append (take (at + k) l) (drop k p), front_length, tail-length)

  front-stays : take at once ≡ take at l
  unfolding once front
  front-stays =
      take-append-le at front _ (omega (arith, whole_length))
      ∙ take-append-le at (take (at + k) l) (drop k p) (omega (arith, front_length))
      ∙ take-take at (at + k) l (omega arith)

  past-stays : drop (at + m) once ≡ drop m p ++ tail
  unfolding once front tail
  past-stays =
      let split : at + m ≡ length (take (at + k) l) + (m - k) = omega (arith, front_length) in
      drop-append-le (at + m) front _ (omega (arith, whole_length))
      ∙ ap (λ (n : ℕ). drop n front ++ drop (at + k + length (drop k p)) l) split
      ∙ ap (λ (x : List ℕ). x ++ drop (at + k + length (drop k p)) l) (drop-append-add (take (at + k) l) (drop k p) (m - k) ∙ drop-drop (m - k) k p)
      ∙ (λ i. drop (add-sub_of_le reach i) p ++ drop (tail-length i) l)

  pub overlaid : pasted (pasted l (at + k) (drop k p)) at (take m p) ≡ pasted l at p
  unfolding once tail
  overlaid =
      ap (λ (n : ℕ). (take at once ++ take m p) ++ drop (at + n) once) (length-take-le m p within)
      ∙ (λ i. (front-stays i ++ take m p) ++ past-stays i)
      ∙ sym (append_assoc (take at l ++ take m p) (drop m p) tail)
      ∙ ap (λ (x : List ℕ). x ++ tail) (append_assoc (take at l) (take m p) (drop m p) ∙ ap (λ (x : List ℕ). take at l ++ x) (take-append-drop m p))

-- what is pasted up to n, and then the next m, is pasted up to n + m
pub pasted-further : (d s : List ℕ) (at n m : ℕ) → at ≤ length d → n + m ≤ length s → pasted (paste d at s n) (at + n) (take m (drop n s)) ≡ paste d at s (n + m)
pasted-further d s at n m room more =
    let held = paste d at s n in
    let part : length (take m (drop n s)) ≡ m = length-take-le m (drop n s) (omega (arith, length-drop n s)) in
    let whole : at + n + m ≡ at + (n + m) = omega arith in
    let past : drop (at + n + m) held ≡ drop (at + (n + m)) d =
    sym (drop-drop m (at + n) held) ∙ ap (drop m) (drop-paste d at s n room (omega arith)) ∙ drop-drop m (at + n) d ∙ ap (λ (k : ℕ). drop k d) whole in
    let front : take (at + n) held ++ take m (drop n s) ≡ take at d ++ take (n + m) s =
    ap (λ (x : List ℕ). x ++ take m (drop n s)) (take-paste d at s n room (omega arith))
    ∙ append_assoc (take at d) (take n s) (take m (drop n s))
    ∙ ap (λ (x : List ℕ). take at d ++ x) (sym (take-add n m s)) in
    ap (λ (k : ℕ). (take (at + n) held ++ take m (drop n s)) ++ drop (at + n + k) held) part ∙ (λ i. front i ++ past i)
