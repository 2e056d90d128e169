-- A word that is stored in the cells that were lent for it lies as storing it at its place leaves it. Assumes nothing.
use mathlib.Core.Path.{◌≡◌, refl, sym, ap, ◌∙◌}
use mathlib.Core.Bool.{cond}
use mathlib.Core.List.{List, [], ◌++◌, append_assoc, append-nil}
use Prim.Native.Nat.{ℕ, ◌+◌, ◌-◌, ◌*◌, ◌≤◌}
use native.Mathlib.Omega.{arith}
use native.Mathlib.Nat.{mul-suc}
use native.Mathlib.Numerals.{add-one}
use borrow.Author.Tests.{le-ltb}
use borrow.Rule.Slice.PartMut.{mid_of, put_mid, mid_len, Post-is}
use lib.Dec.{ltb}
use lib.ListN.{length, take, drop, length-append, drop_of_length-le}
use lib.Seq.{length-take-le}
use Rattle.wire.specs.Storage.{Storage}
use Rattle.wire.proofs.Filling.{filling-part, filling-done}

module _ {A : Type 0} (S : Storage A) (held : List A) (out v : ℕ) (room : S.size * (out + 1) ≤ length held) where
  next : S.size * (out + 1) ≡ S.size * out + S.size
  next = ap (λ (n : ℕ). S.size * n) (add-one out) ∙ mul-suc S.size out

  -- what storing it at its place leaves
  place-is : S.store held out v ≡ take (S.size * out) held ++ (S.code v ++ drop (S.size * out + S.size) held)
  place-is =
      let part = S.code v ++ [] in
      let front : length (take (S.size * out) held) ≡ S.size * out = length-take-le (S.size * out) held (omega (arith, next)) in
      let long : length (take (S.size * out) held ++ part) ≡ S.size * out + S.size = length-append (take (S.size * out) held) part ∙ rw (front, append-nil, S.sized v) refl in
      let f = S.put held held out v [] (take (S.size * out) held ++ part) (filling-part held (S.size * out) part (omega (arith, next))) (omega (arith, next, long)) in
      filling-done f
      ∙ ap (λ (n : ℕ). (take (S.size * out) held ++ part) ++ drop n held) long
      ∙ append_assoc (take (S.size * out) held) part _
      ∙ ap (λ (l : List A). take (S.size * out) held ++ (l ++ drop (S.size * out + S.size) held)) (append-nil (S.code v))

  -- .. and what storing it in front of its cells leaves, once they are back
  module _ {size size' : ℕ} (first : size ≡ S.size) (past : size' ≡ S.size) where
    abbrev from : ℕ
    from = size * out

    abbrev to : ℕ
    to = size * out + size'

    abbrev lent : List A
    lent = mid_of from (to - from) held

    reach : to ≤ length held
    reach = rw (first, past) (omega (arith, next, room))

    long : length lent ≡ S.size
    long = mid_len from to held reach ∙ omega (arith, past)

    pub store-lent : {left : List A} → left ≡ cond (ltb (length lent) S.size) lent (S.code v ++ drop S.size lent) → put_mid from (to - from) held left ≡ S.store held out v
    store-lent e =
        let placed : cond (ltb (length lent) S.size) lent (S.code v ++ drop S.size lent) ≡ S.code v =
        simp (le-ltb (length lent) S.size (omega (arith, long))) (ap (λ (l : List A). S.code v ++ l) (drop_of_length-le lent {i = S.size} (omega (arith, long))) ∙ append-nil (S.code v)) in
        ap (put_mid from (to - from) held) (e ∙ placed)
        ∙ ap (λ (l : List A). take from held ++ (S.code v ++ l)) (Post-is from to held (omega arith))
        ∙ rw (first, past) (sym place-is)
