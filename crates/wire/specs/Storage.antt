-- How words lie in a buffer: as words of their own, or as four bytes each. A walk that writes is proved once, for any storage with a law for its store. Assumes nothing.
use Rattle.refusal.specs.declared.Refusal.{Refusal}
use Rattle.std.specs.Prelude.{ℕ, ◌+◌, ◌*◌, ◌≤◌, ◌≡◌, List, [], ◌∷◌, ◌++◌, length, take, drop, Result, Ok, Err}
use Rattle.wire.specs.Bytes.{bytes32}

-- A buffer that is filled from its front: what it held at first, what it holds now with `out` elements written, what is still to be written, and all that is written
-- in the end.
pub record Filling {A : Type 0} (held₀ held : List A) (out : ℕ) (rest all : List A) : Type 0 where
  pub fits : out ≤ length held
  pub whole : take out held ++ rest ≡ all
  pub kept : drop out held ≡ drop out held₀
  pub long : length held ≡ length held₀

-- how many elements a word takes, which they are, and what storing one at a place leaves
pub record Storage (A : Type 0) : Type 0 where
  pub size : ℕ
  pub code : ℕ → List A
  pub store : List A → ℕ → ℕ → List A
  pub sized : (v : ℕ) → length (code v) ≡ size
  pub put : (held₀ held : List A) (out v : ℕ) (rest all : List A) → Filling held₀ held (size * out) (code v ++ rest) all → length all ≤ length held₀ → Filling held₀ (store held out v) (size * (out + 1)) rest all

-- a list of words as it lies in a buffer
unfoldable pub flat : {A : Type 0} → Storage A → List ℕ → List A
flat S [] = []
flat S (x ∷ xs) = S.code x ++ flat S xs

-- what a buffer holds after an answer on some words: they and the rest of what it held, or all that it held
unfoldable pub left_by : {A : Type 0} → Storage A → Result ℕ Refusal → List ℕ → List A → List A
left_by S (Ok n) ws held = flat S ws ++ drop (S.size * n) held
left_by S (Err r) ws held = held

-- writing ws to a buffer that holds `held` answers r, as is wanted, and leaves `left` in it
pub record Writes {A : Type 0} (S : Storage A) (wanted : Result ℕ Refusal) (ws : List ℕ) (held : List A) (r : Result ℕ Refusal) (left : List A) : Type 0 where
  pub answer : r ≡ wanted
  pub leaves : left ≡ left_by S r ws held

-- a word's bytes in the place of four, at a place that counts words
abbrev pub stored : List ℕ → ℕ → ℕ → List ℕ
stored held out v = take (4 * out) held ++ (bytes32 v ++ drop (4 * out + 4) held)
