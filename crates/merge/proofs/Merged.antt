-- What the checks left decides the answer: one law for each return, for any storage, and what that says in words and in bytes. Assumes nothing.
use Rattle.std.specs.Prelude.{Result, Ok, Err}
use mathlib.Core.Path.{◌≡◌, refl, sym, ◌∙◌}
use mathlib.Core.List.{List, [], ◌∷◌}
use Prim.Native.Nat.{ℕ, zero, suc, ◌*◌, ◌^◌, ◌<◌, ◌≤◌}
use native.Mathlib.Omega.{arith}
use lib.ListN.{length, get_or}
use Rattle.refusal.specs.declared.Refusal.{Refusal}
use Rattle.refusal.specs.declared.Refusal.TheVariants.{NoRoom}
use Rattle.wire.specs.Bytes.{Octets, in_words}
use Rattle.wire.specs.Storage.{Storage, flat}
use Rattle.wire.proofs.Storage.{as-words, as_bytes}
use Rattle.wire.proofs.Words.{length-in_words}
use Rattle.wire.proofs.Writes.{writes-refused, writes-no-room, writes_room, writes-done, left-bytes}
use Rattle.loss_list.specs.Run.{limit}
use Rattle.loss_list.specs.Compress.{compressed, words, ordered}
use Rattle.loss_list.specs.Expand.{judgement}
use Rattle.loss_list.specs.InBytes.{judgement_bytes}
use Rattle.loss_list.proofs.Compresses.{length-compressed, left-compressed}
use Rattle.loss_list.proofs.Expands.{judged-expanded, judged-words}
use Rattle.merging.specs.Merging.{union, barred, Merges, after_merging_bytes, MergesBytes}
use Rattle.merging.specs.Theorems.{Words}
use Rattle.merge.specs.Walk.{Ready, Fills}
use Rattle.merge.specs.Check.{Judges, Admits, AdmitsAll, Merged}
use Rattle.merge.specs.declared.check.Checked.{Checked}

-- the words of bytes are of 32 bits
octet-words : (bs : List ℕ) → Octets bs → Words (in_words bs)
unfolding in_words
octet-words [] h i = omega arith
octet-words (a ∷ []) h i = omega arith
octet-words (a ∷ b ∷ []) h i = omega arith
octet-words (a ∷ b ∷ c ∷ []) h i = omega arith
octet-words (a ∷ b ∷ c ∷ d ∷ bs) h zero = omega (arith, h 0, h 1, h 2, h 3)
octet-words (a ∷ b ∷ c ∷ d ∷ bs) h (suc i) = octet-words bs (λ j. h (suc (suc (suc (suc j))))) i

pub judges-words : (ws : List ℕ) → ((i : ℕ) → get_or ws i 0 < 2 ^ 32) → {j : Result ℕ Refusal} → j ≡ judgement limit ws → Judges ws j
judges-words ws h e = record { words = h; sound = λ n q. (judged-expanded ws (sym q ∙ e)).0 }

-- .. and as bytes
pub judges-bytes : (bs : List ℕ) → Octets bs → {j : Result ℕ Refusal} → j ≡ judgement_bytes bs → Judges (in_words bs) j
judges-bytes bs h e = record { words = octet-words bs h; sound = λ n q. (judged-expanded (in_words bs) (judged-words bs (sym q ∙ e)).1).0 }

-- lists that may be merged are ready to be walked
pub ready : (o : ℕ) (one other : Result ℕ Refusal) (ws vs : List ℕ) (m : Checked) → AdmitsAll o one other ws vs (Ok m) → Ready o ws vs m.left m.right
unfolding Admits
ready o one other ws vs m a = a.1

-- what the checks left is what is judged before the room is asked for
module _ (o : ℕ) (one other : Result ℕ Refusal) (ws vs : List ℕ) where
  refused-is : (q : Refusal) → AdmitsAll o one other ws vs (Err q) → Err q ≡ ordered (barred o one other ws vs) (words (union o ws vs))
  unfolding Admits ordered
  refused-is q a = rw a

  module _ (m : Checked) (a : AdmitsAll o one other ws vs (Ok m)) where
    merged-is : Ok m.words ≡ ordered (barred o one other ws vs) (words (union o ws vs))
    unfolding Admits ordered
    merged-is = rw (a.0, a.2)

    pub words-are : m.words ≡ length (compressed (union o ws vs))
    unfolding Admits
    words-are = a.2 ∙ sym (length-compressed (union o ws vs))

-- each return, for any storage
module _ {A : Type 0} (S : Storage A) (o : ℕ) (one other : Result ℕ Refusal) (ws vs : List ℕ) (held : List A) (room : ℕ) where
  abbrev Answered : Result ℕ Refusal → List A → Type 0
  Answered r left = Merged S (barred o one other ws vs) (union o ws vs) room held r left

  pub merged-refused : (q : Refusal) → AdmitsAll o one other ws vs (Err q) → Answered (Err q) held
  merged-refused q a = writes-refused S room _ held (refused-is o one other ws vs q a)

  module _ (m : Checked) (a : AdmitsAll o one other ws vs (Ok m)) where
    pub merged-no-room : room < m.words → Answered (Err (NoRoom m.words)) held
    merged-no-room l = writes-no-room S room _ held (merged-is o one other ws vs m a) l

    module _ (l : m.words ≤ room) where
      -- the words fit where there is room for so many
      pub all-fits : S.size * room ≤ length held → length (flat S (compressed (union o ws vs))) ≤ length held
      all-fits h = writes_room S room _ held (merged-is o one other ws vs m a) (words-are o one other ws vs m a) l h

      pub merged-done : {left : List A} → Fills (flat S (compressed (union o ws vs))) held left → Answered (Ok m.words) left
      merged-done w = writes-done S room _ held (merged-is o one other ws vs m a) (words-are o one other ws vs m a) l w

-- in words
pub merges-words : (o : ℕ) (ws vs held : List ℕ) {one other r : Result ℕ Refusal} {left : List ℕ} → one ≡ judgement limit ws → other ≡ judgement limit vs
    → Merged as-words (barred o one other ws vs) (union o ws vs) (length held) held r left → Merges o ws vs held r left
merges-words o ws vs held {r = r} e f x = record { answer = rw (e, f) at x.answer; leaves = x.leaves ∙ left-compressed (union o ws vs) held r }

-- .. and as bytes
pub merges-bytes : (o : ℕ) (bs cs held : List ℕ) {one other r : Result ℕ Refusal} {left : List ℕ} → one ≡ judgement_bytes bs → other ≡ judgement_bytes cs
    → Merged as_bytes (barred o one other (in_words bs) (in_words cs)) (union o (in_words bs) (in_words cs)) (length (in_words held)) held r left → MergesBytes o bs cs held r left
unfolding after_merging_bytes
merges-bytes o bs cs held {r = r} e f x =
    let all : List ℕ = union o (in_words bs) (in_words cs) in
    record {
      answer = rw (e, f, length-in_words) at x.answer;
      leaves = x.leaves ∙ left-bytes (compressed all) held (λ a. after_merging_bytes a all held) (λ q. refl) (λ n. refl) r;
    }
