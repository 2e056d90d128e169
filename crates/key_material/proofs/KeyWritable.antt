-- A key message is written exactly where `KeyWritable` holds of its flags, its two lengths and the room.
-- Assumes nothing.
use Rattle.std.specs.Prelude.{Result, Ok, Err}
use Prim.Native.Nat.{ℕ, zero, suc, ◌%◌, ◌≤◌}
use mathlib.Core.Bool.{Bool, true, false, not}
use mathlib.Core.Path.{◌≡◌, refl, ap, sym, ◌∙◌}
use mathlib.Core.Logic.{◌⊎◌, inl, inr, ⊎_elim}
use native.Mathlib.Omega.{arith}
use lib.Count.{ones, ones_in}
use lib.Dec.{leb, eqb}
use borrow.Author.Tests.{le-leb, leb-true, eq-eqb, eqb-true, eqb-false, ne_eqb, not-true}
use Rattle.refusal.specs.declared.Refusal.{Refusal}
use Rattle.key_checks.specs.KeyChecks.{key_count, wrap_length}
use Rattle.key_checks.proofs.Checks.{passed}
use Rattle.key_material.specs.KeyMaterial.{KeyWritable, auth_byte, key_length_from, key_size, salt_limit, key_written}
use Rattle.key_material.specs.declared.Auth.{Auth}
use Rattle.key_material.specs.declared.Auth.TheVariants.{None as NoAuth}

wrap-by : (keys w : ℕ) (a b d : Bool) → eqb w (wrap_length keys 16) ≡ a → eqb w (wrap_length keys 24) ≡ b → eqb w (wrap_length keys 32) ≡ d → (key_length_from keys w ≡ 0 → ⊥)
    → (w ≡ wrap_length keys 16) ⊎ ((w ≡ wrap_length keys 24) ⊎ (w ≡ wrap_length keys 32))
unfolding key_length_from
wrap-by keys w true b d ea eb ed h = inl (eqb-true w (wrap_length keys 16) ea)
wrap-by keys w false true d ea eb ed h = inr (inl (eqb-true w (wrap_length keys 24) eb))
wrap-by keys w false false true ea eb ed h = inr (inr (eqb-true w (wrap_length keys 32) ed))
wrap-by keys w false false false ea eb ed h = absurd (h (simp (ea, eb, ed)))

-- a length that gives a key length is one of the three
pub wrap-of : (keys w : ℕ) → (key_length_from keys w ≡ 0 → ⊥) → (w ≡ wrap_length keys 16) ⊎ ((w ≡ wrap_length keys 24) ⊎ (w ≡ wrap_length keys 32))
wrap-of keys w h = wrap-by keys w _ _ _ refl refl refl h

pub wrap-bound : (keys w : ℕ) → keys ≤ 8 → (key_length_from keys w ≡ 0 → ⊥) → w ≤ 264
wrap-bound keys w k h = ⊎_elim (λ e. omega arith) (λ r. ⊎_elim (λ e. omega arith) (λ e. omega arith) r) (wrap-of keys w h)

-- flags 1, 2 and 3 have one bit set or two
pub key-count : (flags : ℕ) → flags ≤ 3 → (flags ≡ 0 → ⊥) → (key_count flags ≡ 1) ⊎ (key_count flags ≡ 2)
unfolding ones ones_in
key-count zero h n = absurd (n refl)
key-count (suc zero) h n = inl refl
key-count (suc (suc zero)) h n = inl refl
key-count (suc (suc (suc zero))) h n = inr refl
key-count (suc (suc (suc (suc f)))) h n = absurd (omega arith)

pub key-pos : (flags : ℕ) → flags ≤ 3 → (flags ≡ 0 → ⊥) → 1 ≤ key_count flags
key-pos flags h n = ⊎_elim (λ e. omega arith) (λ e. omega arith) (key-count flags h n)

-- the writer finds the key length again that a wrapped length was made from
pub found-16 : (keys : ℕ) → key_length_from keys (wrap_length keys 16) ≡ 16
unfolding key_length_from
found-16 keys = simp (eq-eqb (wrap_length keys 16) (wrap_length keys 16) refl)

pub found-24 : (keys : ℕ) → 1 ≤ keys → key_length_from keys (wrap_length keys 24) ≡ 24
unfolding key_length_from
found-24 keys k = simp (ne_eqb (wrap_length keys 24) (wrap_length keys 16) (λ e. omega arith), eq-eqb (wrap_length keys 24) (wrap_length keys 24) refl)

pub found-32 : (keys : ℕ) → 1 ≤ keys → key_length_from keys (wrap_length keys 32) ≡ 32
unfolding key_length_from
found-32 keys k =
    simp (
      ne_eqb (wrap_length keys 32) (wrap_length keys 16) (λ e. omega arith),
      ne_eqb (wrap_length keys 32) (wrap_length keys 24) (λ e. omega arith),
      eq-eqb (wrap_length keys 32) (wrap_length keys 32) refl,
    )

wrap-found : (keys w : ℕ) → 1 ≤ keys → (w ≡ wrap_length keys 16) ⊎ ((w ≡ wrap_length keys 24) ⊎ (w ≡ wrap_length keys 32)) → key_length_from keys w ≡ 0 → ⊥
wrap-found keys w k (inl h) e = let z = sym (found-16 keys) ∙ ap (key_length_from keys) (sym h) ∙ e in omega (arith, z)
wrap-found keys w k (inr (inl h)) e = let z = sym (found-24 keys k) ∙ ap (key_length_from keys) (sym h) ∙ e in omega (arith, z)
wrap-found keys w k (inr (inr h)) e = let z = sym (found-32 keys k) ∙ ap (key_length_from keys) (sym h) ∙ e in omega (arith, z)

-- the one auth is written as 0
pub auth-zero : (a : Auth) → auth_byte a ≡ 0
auth-zero NoAuth = refl

not_written : (n : ℕ) (why : Refusal) → ◌≡◌ {A = Result ℕ Refusal} (Err why) (Ok n) → ⊥
not_written n why e = let z : ◌≡◌ {A = ℕ} 0 1 = cc in omega arith

same_size : (m n : ℕ) → ◌≡◌ {A = Result ℕ Refusal} (Ok m) (Ok n) → n ≡ m
same_size m n e = cc

pub writable-of : (flags salt wrapped room n : ℕ) → key_written flags salt wrapped room ≡ Ok n → KeyWritable flags salt wrapped room × (n ≡ key_size salt wrapped)
writable-of flags salt wrapped room n e =
    let p1 = passed (leb flags 3) _ _ (Ok n) (not_written n _) e in
    let p2 = passed (not (eqb flags 0)) _ _ (Ok n) (not_written n _) p1.1 in
    let p3 = passed (leb salt salt_limit) _ _ (Ok n) (not_written n _) p2.1 in
    let p4 = passed (eqb (salt % 4) 0) _ _ (Ok n) (not_written n _) p3.1 in
    let p5 = passed (not (eqb (key_length_from (key_count flags) wrapped) 0)) _ _ (Ok n) (not_written n _) p4.1 in
    let p6 = passed (leb (key_size salt wrapped) room) _ _ (Ok n) (not_written n _) p5.1 in (
      record {
        narrow = leb-true flags 3 p1.0;
        keyed = eqb-false flags 0 (not-true _ p2.0);
        short = leb-true salt salt_limit p3.0;
        words = eqb-true (salt % 4) 0 p4.0;
        key = wrap-of (key_count flags) wrapped (eqb-false _ 0 (not-true _ p5.0));
        fits = leb-true (key_size salt wrapped) room p6.0;
      },
      same_size (key_size salt wrapped) n p6.1,
    )

pub writable-is : (flags salt wrapped room : ℕ) → KeyWritable flags salt wrapped room → key_written flags salt wrapped room ≡ Ok (key_size salt wrapped)
writable-is flags salt wrapped room k =
    simp (
      le-leb flags 3 k.narrow,
      ne_eqb flags 0 k.keyed,
      le-leb salt salt_limit k.short,
      eq-eqb (salt % 4) 0 k.words,
      ne_eqb (key_length_from (key_count flags) wrapped) 0 (wrap-found (key_count flags) wrapped (key-pos flags k.narrow k.keyed) k.key),
      le-leb (key_size salt wrapped) room k.fits,
    )
