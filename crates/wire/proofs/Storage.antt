-- The storages of words: as words of their own, or as four bytes each. Assumes nothing.
use mathlib.Core.Path.{◌≡◌, refl, sym, ap, subst, ◌∙◌}
use mathlib.Core.List.{List, [], ◌∷◌, ◌++◌, append_assoc}
use Prim.Native.Nat.{ℕ, zero, suc, ◌+◌, ◌*◌, ◌<◌, ◌≤◌}
use native.Mathlib.Omega.{arith}
use native.Mathlib.Numerals.{add-one, add-two, add-three}
use native.Mathlib.Nat.{mul-zero, mul-suc, suc-mul, add_comm}
use lib.ListN.{length, take, drop, set, length-append}
use lib.Seq.{sets-eq}
use Rattle.wire.specs.Bytes.{bytes32, in_bytes, in_words}
use Rattle.wire.specs.Storage.{stored}
use Rattle.wire.specs.Storage.{Filling, Storage, flat}
use Rattle.wire.proofs.Words.{length-in_words}
use Rattle.wire.proofs.Filling.{filling-length, filling-put}

module _ {A : Type 0} (S : Storage A) where
  pub flat_append : (xs ys : List ℕ) → flat S (xs ++ ys) ≡ flat S xs ++ flat S ys
  unfolding flat
  flat_append [] ys = refl
  flat_append (x ∷ xs) ys = ap (λ (l : List A). S.code x ++ l) (flat_append xs ys) ∙ sym (append_assoc (S.code x) (flat S xs) (flat S ys))

  pub length-flat : (xs : List ℕ) → length (flat S xs) ≡ S.size * length xs
  unfolding flat
  length-flat [] = sym (mul-zero S.size)
  length-flat (x ∷ xs) =
      length-append (S.code x) (flat S xs) ∙ rw (S.sized x, length-flat xs) (add_comm S.size (S.size * length xs) ∙ sym (mul-suc S.size (length xs)))

  -- a store keeps within the buffer
  pub room_for : (held₀ held : List A) (out v : ℕ) (rest all : List A) → Filling held₀ held (S.size * out) (S.code v ++ rest) all → length all ≤ length held₀ → S.size * (out + 1) ≤ length held
  room_for held₀ held out v rest all f room =
      let g = S.put held₀ held out v rest all f room in
      omega (arith, g.fits, g.long, f.long)

-- words as they are
abbrev pub as-words : Storage ℕ
as-words =
    record {
      size = 1;
      code = λ v. v ∷ [];
      store = λ held out v. set held out v;
      sized = λ v. refl;
      put = λ held₀ held out v rest all f room.
          let one : 1 * out ≡ out = omega arith in
          let next : 1 * (out + 1) ≡ out + 1 = omega arith in
          rw next (filling-put (rw one at f) room);
    }

pub flat-words : (xs : List ℕ) → flat as-words xs ≡ xs
unfolding flat
flat-words [] = refl
flat-words (x ∷ xs) = ap (λ (l : List ℕ). x ∷ l) (flat-words xs)

put-sets : (held₀ held : List ℕ) (out a b c d : ℕ) (rest all : List ℕ) → Filling held₀ held (4 * out) (a ∷ b ∷ c ∷ d ∷ rest) all → length all ≤ length held₀
    → Filling held₀ (set (set (set (set held (4 * out) a) (4 * out + 1) b) (4 * out + 2) c) (4 * out + 3) d) (4 * (out + 1)) rest all
put-sets held₀ held out a b c d rest all f room =
    let two : 4 * out + 1 + 1 ≡ 4 * out + 2 = omega arith in
    let three : 4 * out + 2 + 1 ≡ 4 * out + 3 = omega arith in
    let four : 4 * out + 3 + 1 ≡ 4 * (out + 1) = omega arith in
    let second = rw two at (filling-put (filling-put f room) room) in
    let third = rw three at (filling-put second room) in
    rw four at (filling-put third room)

pub put_four : (held₀ held : List ℕ) (out v : ℕ) (rest all : List ℕ) → Filling held₀ held (4 * out) (bytes32 v ++ rest) all → length all ≤ length held₀ → Filling held₀ (stored held out v) (4 * (out + 1)) rest all
put_four held₀ held out v rest all f room =
    subst (λ (l : List ℕ). Filling held₀ l (4 * (out + 1)) rest all)
    (rw (add-one (4 * out), add-two (4 * out), add-three (4 * out)) (sets-eq (bytes32 v) held (4 * out) (omega (arith, filling-length f, f.long)))
    ∙ append_assoc (take (4 * out) held) (bytes32 v) (drop (4 * out + 4) held))
    (put-sets held₀ held out _ _ _ _ rest all f room)

-- words as four bytes each
abbrev pub as_bytes : Storage ℕ
as_bytes = record { size = 4; code = bytes32; store = stored; sized = λ v. refl; put = put_four }

pub flat-bytes : (xs : List ℕ) → flat as_bytes xs ≡ in_bytes xs
unfolding flat in_bytes
flat-bytes [] = refl
flat-bytes (x ∷ xs) = ap (λ (l : List ℕ). bytes32 x ++ l) (flat-bytes xs)

-- no more words are in a buffer than it has elements
pub room_below : (size n held : ℕ) → 0 < size → size * n ≤ held → n ≤ held
room_below (suc k) n held h l = omega (arith, suc-mul k n)
room_below zero n held h l = absurd (omega arith)

-- a word takes some room, and no more words lie in a buffer than it has room for
pub one_takes : 0 < 1
one_takes = omega arith

pub words-fit : (ws : List ℕ) → 1 * length ws ≤ length ws
words-fit ws = omega arith

pub four_take : 0 < 4
four_take = omega arith

pub bytes-fit : (bs : List ℕ) → 4 * length (in_words bs) ≤ length bs
bytes-fit bs = omega (arith, length-in_words bs)
