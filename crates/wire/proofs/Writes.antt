-- Words written to a buffer of any storage: one law for each return of a writer that judges first, and what stays in the buffer, in words and in bytes. Assumes nothing.
use Rattle.std.specs.Prelude.{Result, Ok, Err}
use mathlib.Core.Path.{◌≡◌, refl, sym, ap, ◌∙◌}
use mathlib.Core.List.{List, ◌++◌}
use Prim.Native.Nat.{ℕ, ◌*◌, ◌<◌, ◌≤◌}
use native.Mathlib.Nat.{mul-le-mul_left}
use native.Mathlib.Omega.{arith}
use borrow.Author.Tests.{lt-ltb, le-ltb}
use lib.ListN.{length, drop}
use Rattle.refusal.specs.declared.Refusal.{Refusal}
use Rattle.refusal.specs.declared.Refusal.TheVariants.{NoRoom}
use Rattle.wire.specs.Bytes.{in_bytes}
use Rattle.wire.specs.Lent.{within}
use Rattle.wire.specs.Storage.{Storage, flat, left_by, Writes}
use Rattle.wire.proofs.Storage.{as-words, as_bytes, flat-words, flat-bytes, length-flat}

-- the answer, from what is judged and the room
module _ (judged : Result ℕ Refusal) (room : ℕ) where
  pub within-refused : {r : Refusal} → Err r ≡ judged → Err r ≡ within room judged
  unfolding within
  within-refused e = ap (within room) e

  module _ {n : ℕ} (e : Ok n ≡ judged) where
    pub within-no-room : room < n → Err (NoRoom n) ≡ within room judged
    unfolding within
    within-no-room l = sym (simp (lt-ltb room n l)) ∙ ap (within room) e

    pub within-done : n ≤ room → Ok n ≡ within room judged
    unfolding within
    within-done l = sym (simp (le-ltb room n l)) ∙ ap (within room) e

-- each return
module _ {A : Type 0} (S : Storage A) {judged : Result ℕ Refusal} (room : ℕ) (ws : List ℕ) (held : List A) where
  pub writes-refused : {r : Refusal} → Err r ≡ judged → Writes S (within room judged) ws held (Err r) held
  unfolding left_by
  writes-refused e = record { answer = within-refused judged room e; leaves = refl }

  module _ {n : ℕ} (e : Ok n ≡ judged) where
    pub writes-no-room : room < n → Writes S (within room judged) ws held (Err (NoRoom n)) held
    unfolding left_by
    writes-no-room l = record { answer = within-no-room judged room e l; leaves = refl }

    module _ (q : n ≡ length ws) (l : n ≤ room) where
      long : length (flat S ws) ≡ S.size * n
      long = length-flat S ws ∙ ap (λ (k : ℕ). S.size * k) (sym q)

      -- the words fit where there is room for so many
      pub writes_room : S.size * room ≤ length held → length (flat S ws) ≤ length held
      writes_room fits = omega (arith, long, mul-le-mul_left S.size l, fits)

      pub writes-done : {left : List A} → left ≡ flat S ws ++ drop (length (flat S ws)) held → Writes S (within room judged) ws held (Ok n) left
      unfolding left_by
      writes-done f = record { answer = within-done judged room e l; leaves = f ∙ ap (λ (k : ℕ). flat S ws ++ drop k held) long }

-- a rule that says of each answer what is left says the same as `left_by`: in words
module _ (ws held : List ℕ) (left : Result ℕ Refusal → List ℕ) (refused : (r : Refusal) → left (Err r) ≡ held) where
  pub left-words : ((n : ℕ) → left (Ok n) ≡ ws ++ drop n held) → (r : Result ℕ Refusal) → left_by as-words r ws held ≡ left r
  unfolding left_by
  left-words done (Ok n) =
      let one : 1 * n ≡ n = omega arith in
      rw (flat-words ws, one, done n)
  left-words done (Err r) = sym (refused r)

  -- .. and in bytes
  pub left-bytes : ((n : ℕ) → left (Ok n) ≡ in_bytes ws ++ drop (4 * n) held) → (r : Result ℕ Refusal) → left_by as_bytes r ws held ≡ left r
  unfolding left_by
  left-bytes done (Ok n) = rw (flat-bytes ws, done n)
  left-bytes done (Err r) = sym (refused r)
