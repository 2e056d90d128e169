-- A check's reason is true since it reads no byte past its offset, and the checks before it read none past theirs, which is no further. Assumes nothing.
use Rattle.std.specs.Prelude.{Option, Some, None}
use Prim.Native.Nat.{ℕ, ◌<◌, ◌≤◌}
use mathlib.Core.Bool.{Bool, true, false, not}
use mathlib.Core.Path.{◌≡◌, refl, sym, ◌∙◌}
use mathlib.Core.List.{List}
use native.Mathlib.Omega.{arith}
use borrow.Author.Tests.{leb-true, leb-false, le-leb, lt-leb}
use lib.Dec.{leb, eqb}
use lib.ListN.{length}
use Rattle.refusal.specs.declared.Refusal.{Refusal}
use Rattle.refusal.specs.declared.Refusal.TheVariants.{NotEnoughData, BadSrtExtensionMessage, BadKeyPacketType, BadKeySign, NoKey, BadCipherKind, BadAuth, BadStreamEncapsulation, StreamEncapsulationNotSrt, BadCryptoLength}
use Rattle.wire.specs.Bytes.{byte_at}
use Rattle.key_checks.specs.KeyChecks.{Judged, sound, unsound, unless, key_head, key_version, packet_type_bits, is_packet_type, key_sign, key_flags, is_key_length, key_length, key_used, sign_judged, kinds_judged, lengths_judged, key_judged}
use Rattle.key_checks.specs.Reasons.{Agree, ReasonTrue, NowhereExactly}
use Rattle.key_checks.proofs.Checks.{same-fault}

-- f looks at no byte past o
abbrev Reads : {A : Type 0} → ℕ → (List ℕ → A) → Type 0
Reads o f = (s t : List ℕ) → length t ≡ length s → Agree (Some o) s t → f t ≡ f s

-- what the checks of a row answer is true as far as it looked, which is up to o at least
record Reasons (o : ℕ) (row : List ℕ → Judged) : Type 0 where
  reach : (s : List ℕ) (why : Refusal) (looked : Option ℕ) → row s ≡ unsound why looked → (p : ℕ) × (looked ≡ Some p) × (o ≤ p)
  same : (s t : List ℕ) (why : Refusal) (p : ℕ) → row s ≡ unsound why (Some p) → length t ≡ length s → Agree (Some p) s t → row t ≡ row s

no-checks : Reasons 15 (λ s. sound)
no-checks = record {
  reach = λ s why looked e. absurd (let z : ◌≡◌ {A = ℕ} 0 1 = cc in omega arith);
  same = λ s t why p e l a. refl;
}

module _ (o later-o : ℕ) (holds : List ℕ → Bool) (why : List ℕ → Refusal) (later : List ℕ → Judged) (h : o ≤ later-o) (tests : Reads o holds) (names : Reads o why) (r : Reasons later-o later) where
  abbrev row : List ℕ → Judged
  row s = unless (holds s) (unsound (why s) (Some o)) (later s)

  one_more : Reasons o row
  one_more = record { reach = λ s w looked e. reached s w looked (holds s) e; same = λ s t w p e l a. agreed s t w p l a (holds s) refl e }
    where
      reached : (s : List ℕ) (w : Refusal) (looked : Option ℕ) (b : Bool) → unless b (unsound (why s) (Some o)) (later s) ≡ unsound w looked → (p : ℕ) × (looked ≡ Some p) × (o ≤ p)
      reached s w looked true e =
          let far = r.reach s w looked e in
          (far.0, far.1, omega (arith, far.2))
      reached s w looked false e = (o, sym (same-fault e).1, omega arith)

      agreed : (s t : List ℕ) (w : Refusal) (p : ℕ) → length t ≡ length s → Agree (Some p) s t → (b : Bool) → holds s ≡ b → unless b (unsound (why s) (Some o)) (later s) ≡ unsound w (Some p) → row t ≡ row s
      agreed s t w p l a true q e =
          let far = r.reach s w (Some p) e in
          let here : p ≡ far.0 = cc far.1 in
          let passes = tests s t l (λ i k. a i (omega (arith, far.2))) in
          rw (passes, q) (r.same s t w p e l a)
      agreed s t w p l a false q e =
          let reach : Some o ≡ Some p = (same-fault e).1 in
          let here : o ≡ p = cc in
          let near : Agree (Some o) s t = λ i k. a i (omega arith) in
          rw (tests s t l near, q, names s t l near)

-- the row, from its last check up: each looks as far as the one before or further
from-lengths : Reasons 15 lengths_judged
from-lengths =
    one_more _ _ (λ s. is_key_length (key_length s)) (λ s. BadCryptoLength (key_length s)) _ (omega arith) (λ s t l a. rw (a 15 (omega arith))) (λ s t l a. rw (a 15 (omega arith)))
    (one_more _ _ (λ s. leb (key_used s) (length s)) (λ s. NotEnoughData) _ (omega arith) (λ s t l a. rw (a 3 (omega arith), a 14 (omega arith), a 15 (omega arith), l)) (λ s t l a. refl) no-checks)

from-kinds : Reasons 8 (λ s. kinds_judged s (lengths_judged s))
from-kinds =
    one_more _ _ (λ s. leb (byte_at s 8) 3) (λ s. BadCipherKind (byte_at s 8)) _ (omega arith) (λ s t l a. rw (a 8 (omega arith))) (λ s t l a. rw (a 8 (omega arith)))
    (one_more _ _ (λ s. eqb (byte_at s 9) 0) (λ s. BadAuth (byte_at s 9)) _ (omega arith) (λ s t l a. rw (a 9 (omega arith))) (λ s t l a. rw (a 9 (omega arith)))
    (one_more _ _ (λ s. not (eqb (byte_at s 10) 1)) (λ s. StreamEncapsulationNotSrt) _ (omega arith) (λ s t l a. rw (a 10 (omega arith))) (λ s t l a. refl)
    (one_more _ _ (λ s. eqb (byte_at s 10) 2) (λ s. BadStreamEncapsulation (byte_at s 10)) _ (omega arith) (λ s t l a. rw (a 10 (omega arith))) (λ s t l a. rw (a 10 (omega arith)))
    from-lengths)))

abbrev after_length : List ℕ → Judged
after_length s = sign_judged s (kinds_judged s (lengths_judged s))

from-version : Reasons 0 after_length
from-version =
    one_more _ _ (λ s. eqb (key_version s) 1) (λ s. BadSrtExtensionMessage) _ (omega arith) (λ s t l a. rw (a 0 (omega arith))) (λ s t l a. refl)
    (one_more _ _ (λ s. is_packet_type (packet_type_bits s)) (λ s. BadKeyPacketType (packet_type_bits s)) _ (omega arith) (λ s t l a. rw (a 0 (omega arith))) (λ s t l a. rw (a 0 (omega arith)))
    (one_more _ _ (λ s. eqb (key_sign s) 0x2029) (λ s. BadKeySign (key_sign s)) _ (omega arith) (λ s t l a. rw (a 1 (omega arith), a 2 (omega arith))) (λ s t l a. rw (a 1 (omega arith), a 2 (omega arith)))
    (one_more _ _ (λ s. not (eqb (key_flags s) 0)) (λ s. NoKey) _ (omega arith) (λ s t l a. rw (a 3 (omega arith))) (λ s t l a. refl)
    from-kinds)))

long-is : (s : List ℕ) → key_head ≤ length s → key_judged s ≡ after_length s
unfolding key_judged
long-is s h = simp (le-leb key_head (length s) h)

short-is : (s : List ℕ) → length s < key_head → key_judged s ≡ unsound NotEnoughData None
unfolding key_judged
short-is s h = simp (lt-leb key_head (length s) h)

-- where bytes were looked at there are 16 at least
pub long_of : (s : List ℕ) {why : Refusal} {p : ℕ} → key_judged s ≡ unsound why (Some p) → key_head ≤ length s
long_of s {why} {p} e = go (leb key_head (length s)) refl
  where
    go : (b : Bool) → leb key_head (length s) ≡ b → key_head ≤ length s
    go true h = leb-true key_head (length s) h
    go false h =
        let none : None ≡ Some p = (same-fault (sym (short-is s (leb-false key_head (length s) h)) ∙ e)).1 in
        absurd (let z : ◌≡◌ {A = ℕ} 0 1 = cc in omega arith)

-- and where none was there are fewer
short-of : (s : List ℕ) {why : Refusal} → key_judged s ≡ unsound why None → length s < key_head
short-of s {why} e = go (leb key_head (length s)) refl
  where
    go : (b : Bool) → leb key_head (length s) ≡ b → length s < key_head
    go true h =
        let far = (from-version.reach s why None (sym (long-is s (leb-true key_head (length s) h)) ∙ e)).1 in
        absurd (let z : ◌≡◌ {A = ℕ} 0 1 = cc in omega arith)
    go false h = leb-false key_head (length s) h

pub reason-true : ReasonTrue
reason-true s t why (Some p) e l a =
    let h = long_of s e in
    long-is t (omega arith) ∙ from-version.same s t why p (sym (long-is s h) ∙ e) l a ∙ sym (long-is s h) ∙ e
reason-true s t why None e l a =
    let h = short-of s e in
    short-is t (omega arith) ∙ sym (short-is s h) ∙ e

pub nowhere-exactly : NowhereExactly
nowhere-exactly s = (λ e. short-of s e.1, λ h. (NotEnoughData, short-is s h))
