-- A key message passes every check of `key_judged` exactly where `KeySound` holds of it, and is refused for having no key exactly where it is right up
-- to its sign and has none. One check is passed where its test is true, and each test is true exactly where its fact holds.
-- Assumes nothing.
use Rattle.std.specs.Prelude.{Option, Some}
use Prim.Native.Nat.{ℕ, ◌≤◌}
use mathlib.Core.Bool.{Bool, true, false, not}
use mathlib.Core.Path.{◌≡◌, refl, sym, ap, ◌∙◌}
use mathlib.Core.List.{List}
use mathlib.Core.Logic.{◌⊎◌, inl, inr, ⊎_elim}
use native.Mathlib.Omega.{arith}
use lib.Dec.{leb, eqb}
use lib.ListN.{length}
use borrow.Author.Tests.{le-leb, leb-true, eq-eqb, eqb-true, eqb-false, ne_eqb, not-true, not-false}
use Rattle.refusal.specs.declared.Refusal.{Refusal}
use Rattle.refusal.specs.declared.Refusal.TheVariants.{NoKey}
use Rattle.refusal.specs.Refusal.{number_of}
use Rattle.wire.specs.Bytes.{byte_at}
use Rattle.key_checks.specs.KeyChecks.{Judged, sound, unsound, unless, either, KeySigned, KeySound, key_head, key_version, packet_type_bits, is_packet_type, key_sign, key_flags, is_key_length, key_length, key_used, head_judged, kinds_judged, lengths_judged, key_judged}
use Rattle.key_checks.proofs.Checks.{passed, failed, same-fault}

either_true : (a b : Bool) → either a b ≡ true → (a ≡ true) ⊎ (b ≡ true)
either_true true b e = inl refl
either_true false b e = inr e

-- the packet types are 1 and 2
kind-of : (n : ℕ) → is_packet_type n ≡ true → (n ≡ 1) ⊎ (n ≡ 2)
kind-of n e = ⊎_elim (λ h. inl (eqb-true n 1 h)) (λ h. inr (eqb-true n 2 h)) (either_true (eqb n 1) (eqb n 2) e)

is-kind : (n : ℕ) → (n ≡ 1) ⊎ (n ≡ 2) → is_packet_type n ≡ true
is-kind n (inl h) = ap is_packet_type h
is-kind n (inr h) = ap is_packet_type h

-- the key lengths are 16, 24 and 32
key_of : (n : ℕ) → is_key_length n ≡ true → (n ≡ 16) ⊎ ((n ≡ 24) ⊎ (n ≡ 32))
key_of n e =
    ⊎_elim (λ h. inl (eqb-true n 16 h))
    (λ h. inr (⊎_elim (λ k. inl (eqb-true n 24 k)) (λ k. inr (eqb-true n 32 k)) (either_true (eqb n 24) (eqb n 32) h)))
    (either_true (eqb n 16) (either (eqb n 24) (eqb n 32)) e)

is_key : (n : ℕ) → (n ≡ 16) ⊎ ((n ≡ 24) ⊎ (n ≡ 32)) → is_key_length n ≡ true
is_key n (inl h) = ap is_key_length h
is_key n (inr (inl h)) = ap is_key_length h
is_key n (inr (inr h)) = ap is_key_length h

-- Where the answer is no refusal up to number 11, as those of all checks but the key flags' are, these are passed.
module _ (s : List ℕ) (answer : Judged) (other : (why : Refusal) (looked : Option ℕ) → number_of why ≤ 11 → unsound why looked ≡ answer → ⊥) where
  signed_of : (later : Judged) → head_judged s later ≡ answer → KeySigned s × (unless (not (eqb (key_flags s) 0)) (unsound NoKey (Some 3)) later ≡ answer)
  signed_of later e =
      let head = passed (leb key_head (length s)) _ _ answer (other _ _ (omega arith)) e in
      let version = passed (eqb (key_version s) 1) _ _ answer (other _ _ (omega arith)) head.1 in
      let kind = passed (is_packet_type (packet_type_bits s)) _ _ answer (other _ _ (omega arith)) version.1 in
      let sign = passed (eqb (key_sign s) 0x2029) _ _ answer (other _ _ (omega arith)) kind.1 in (
        record {
          head = leb-true key_head (length s) head.0;
          version = eqb-true (key_version s) 1 version.0;
          kind = kind-of (packet_type_bits s) kind.0;
          sign = eqb-true (key_sign s) 0x2029 sign.0;
        },
        sign.1,
      )

  rest_of : kinds_judged s (lengths_judged s) ≡ answer → (KeySigned s → (key_flags s ≡ 0 → ⊥) → KeySound s) × (sound ≡ answer)
  rest_of e =
      let cipher = passed (leb (byte_at s 8) 3) _ _ answer (other _ _ (omega arith)) e in
      let auth = passed (eqb (byte_at s 9) 0) _ _ answer (other _ _ (omega arith)) cipher.1 in
      let not-stream = passed (not (eqb (byte_at s 10) 1)) _ _ answer (other _ _ (omega arith)) auth.1 in
      let encapsulation = passed (eqb (byte_at s 10) 2) _ _ answer (other _ _ (omega arith)) not-stream.1 in
      let key = passed (is_key_length (key_length s)) _ _ answer (other _ _ (omega arith)) encapsulation.1 in
      let whole = passed (leb (key_used s) (length s)) _ _ answer (other _ _ (omega arith)) key.1 in (
        λ signed keyed.
            record {
              signed = signed;
              keyed = keyed;
              cipher = leb-true (byte_at s 8) 3 cipher.0;
              auth = eqb-true (byte_at s 9) 0 auth.0;
              encapsulation = eqb-true (byte_at s 10) 2 encapsulation.0;
              key = key_of (key_length s) key.0;
              whole = leb-true (key_used s) (length s) whole.0;
            },
        whole.1,
      )

signed_is : (s : List ℕ) (later : Judged) → KeySigned s → head_judged s later ≡ unless (not (eqb (key_flags s) 0)) (unsound NoKey (Some 3)) later
signed_is s later k =
    simp (
      le-leb key_head (length s) k.head,
      eq-eqb (key_version s) 1 k.version,
      is-kind (packet_type_bits s) k.kind,
      eq-eqb (key_sign s) 0x2029 k.sign,
    )

not_sound : (why : Refusal) (looked : Option ℕ) → unsound why looked ≡ sound → ⊥
not_sound why looked e = let z : ◌≡◌ {A = ℕ} 0 1 = cc in omega arith

pub sound-of : (s : List ℕ) → key_judged s ≡ sound → KeySound s
unfolding key_judged
sound-of s e =
    let signed = signed_of s sound (λ why looked low. not_sound why looked) _ e in
    let keyed = passed (not (eqb (key_flags s) 0)) _ _ sound (not_sound NoKey (Some 3)) signed.1 in
    (rest_of s sound (λ why looked low. not_sound why looked) keyed.1).0 signed.0 (eqb-false (key_flags s) 0 (not-true _ keyed.0))

pub sound-is : (s : List ℕ) → KeySound s → key_judged s ≡ sound
unfolding key_judged
sound-is s k =
    signed_is s (kinds_judged s (lengths_judged s)) k.signed
    ∙ simp (
      ne_eqb (key_flags s) 0 k.keyed,
      le-leb (byte_at s 8) 3 k.cipher,
      eq-eqb (byte_at s 9) 0 k.auth,
      ne_eqb (byte_at s 10) 1 (λ e. omega (arith, k.encapsulation)),
      eq-eqb (byte_at s 10) 2 k.encapsulation,
      is_key (key_length s) k.key,
      le-leb (key_used s) (length s) k.whole,
    )

module _ (s : List ℕ) (looked : Option ℕ) where
  not-no-key : (why : Refusal) (reach : Option ℕ) → number_of why ≤ 11 → unsound why reach ≡ unsound NoKey looked → ⊥
  not-no-key why reach low e =
      let same : why ≡ NoKey = (same-fault e).0 in
      omega (arith, low, ap number_of same)

  pub keyless-of : key_judged s ≡ unsound NoKey looked → KeySigned s × (key_flags s ≡ 0)
  unfolding key_judged
  keyless-of e =
      let signed = signed_of s (unsound NoKey looked) not-no-key _ e in
      let none-later : kinds_judged s (lengths_judged s) ≡ unsound NoKey looked → ⊥ = λ e. not_sound NoKey looked (sym (rest_of s (unsound NoKey looked) not-no-key e).1) in
      (signed.0, eqb-true (key_flags s) 0 (not-false _ (failed (not (eqb (key_flags s) 0)) _ _ (unsound NoKey looked) none-later signed.1)))

pub keyless-is : (s : List ℕ) → KeySigned s → key_flags s ≡ 0 → key_judged s ≡ unsound NoKey (Some 3)
unfolding key_judged
keyless-is s k none = signed_is s (kinds_judged s (lengths_judged s)) k ∙ simp (eq-eqb (key_flags s) 0 none)
