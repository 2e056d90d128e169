-- A part of a buffer that is lent to a writer and comes back: where the part is as long as what is written, the buffer holds it there.
-- Assumes nothing.
use Prim.Native.Nat.{ℕ, ◌+◌, ◌-◌, ◌≤◌}
use mathlib.Core.List.{List, ◌++◌, append_assoc, append-nil}
use mathlib.Core.Path.{◌≡◌, sym, ap, ◌∙◌}
use native.Mathlib.Omega.{arith}
use borrow.Author.Tests.{le-ltb}
use borrow.Rule.Slice.PartMut.{mid_of, post_of, put_mid, mid_len, Post-is}
use lib.ListN.{length, take, drop, length-append, length-drop, drop_of_length-le}
use lib.Seq.{take_at, drop-append-add, drop-drop}
use Rattle.wire.specs.Lent.{placed}

-- what fits is in front, and the rest stays
pub placed-fits : (bs held : List ℕ) → length bs ≤ length held → placed bs held ≡ bs ++ drop (length bs) held
placed-fits bs held h = simp (le-ltb (length held) (length bs) h)

-- what fills a buffer is all that it holds
pub placed-whole : (bs held : List ℕ) → length bs ≡ length held → placed bs held ≡ bs
placed-whole bs held e =
    placed-fits bs held (omega arith) ∙ ap (λ (l : List ℕ). bs ++ l) (drop_of_length-le held {i = length bs} (omega arith)) ∙ append-nil bs

module _ (bs held : List ℕ) (a e : ℕ) (long : e ≡ a + length bs) (room : e ≤ length held) where
  -- bs written to the part from a to e
  pub lent-part : put_mid a (e - a) held (placed bs (mid_of a (e - a) held)) ≡ take a held ++ (bs ++ drop e held)
  lent-part =
      ap (λ (l : List ℕ). take a held ++ (l ++ post_of a (e - a) held)) (placed-whole bs (mid_of a (e - a) held) (omega (arith, mid_len a e held room)))
      ∙ ap (λ (l : List ℕ). take a held ++ (bs ++ l)) (Post-is a e held (omega arith))

-- `written` stands at the front of a buffer that held `held`: bs written to the part after it makes it longer by bs
pub lent-next : {l l' last : List ℕ} (written bs held : List ℕ) (a e : ℕ) → length written ≡ a → e ≡ a + length bs → e ≤ length held
    → l ≡ written ++ drop a held → last ≡ placed bs (mid_of a (e - a) l) → l' ≡ put_mid a (e - a) l last → l' ≡ (written ++ bs) ++ drop e held
lent-next {l} {l'} {last} written bs held a e here long room front put back =
    let as_long : length (written ++ drop a held) ≡ length held = omega (arith, length-append written (drop a held), length-drop a held) in
    let past : drop e (written ++ drop a held) ≡ drop e held =
    ap (λ (n : ℕ). drop n (written ++ drop a held)) (long ∙ ap (λ (n : ℕ). n + length bs) (sym here))
    ∙ drop-append-add written (drop a held) (length bs) ∙ drop-drop (length bs) a held ∙ ap (λ (n : ℕ). drop n held) (sym long) in
    back
    ∙ ap (put_mid a (e - a) l) put
    ∙ ap (λ (x : List ℕ). put_mid a (e - a) x (placed bs (mid_of a (e - a) x))) front
    ∙ lent-part bs (written ++ drop a held) a e long (omega arith)
    ∙ (λ i. take_at written (drop a held) a here i ++ (bs ++ past i))
    ∙ sym (append_assoc written bs (drop e held))
