-- The theorems of the choice by type: one case for each type up to 8, and one for those above.
-- Assumes nothing.
use Rattle.std.specs.Prelude.{Result, Ok, Err}
use Rattle.refusal.specs.declared.Refusal.{Refusal}
use Rattle.group.specs.declared.Group.{Group}
use Prim.Native.Nat.{ℕ, zero, suc, ◌*◌, ◌<◌, ◌≤◌}
use mathlib.Core.Bool.{Bool, true, false, cond}
use mathlib.Core.Path.{◌≡◌, refl, sym, ap, ◌∙◌}
use mathlib.Core.List.{List}
use native.Mathlib.Omega.{arith}
use lib.Dec.{ltb, leb}
use lib.ListN.{length}
use borrow.Author.Tests.{eq-eqb, ne_eqb, le-leb, lt-leb}
use Rattle.refusal.specs.declared.Refusal.TheVariants.{NotEnoughData, LaterType, UnsupportedSrtExtensionType}
use Rattle.handshake.specs.Handshake.{handshake_of, handshake_read, handshake_size}
use Rattle.group.specs.Group.{group_of, group_read, group_size}
use Rattle.key_checks.specs.KeyChecks.{Judged, key_judged}
use Rattle.key_material.specs.KeyMaterial.{key_answer, key_read}
use Rattle.extension.specs.Choice.{handshake_part, key_part, group_part, choice, type_id, size_words}
use Rattle.extension.specs.Theorems.{used_by, ChoiceNamesType, ChoiceSize, ChoiceRefusesFirst}
use Rattle.extension.specs.declared.SrtControlPacket.{SrtControlPacket}
use Rattle.extension.specs.declared.SrtControlPacket.TheVariants.{HandshakeRequest, HandshakeResponse, Refused}
use Rattle.handshake.specs.declared.SrtHandshake.{SrtHandshake}
use Rattle.key_material.specs.declared.KeyingMaterialMessage.{KeyingMaterialMessage}

-- ---- which part a type names

pub names-handshake : (kind : ℕ) (s : List ℕ) → (kind ≡ 0 → ⊥) → kind < 3 → choice kind s ≡ handshake_part kind (handshake_read s)
names-handshake zero s some h = absurd (some refl)
names-handshake (suc zero) s some h = refl
names-handshake (suc (suc zero)) s some h = refl
names-handshake (suc (suc (suc kind))) s some h = absurd (omega arith)

pub names_key : (kind : ℕ) (s : List ℕ) → 3 ≤ kind → kind < 5 → choice kind s ≡ key_part kind (key_read s)
names_key zero s low h = absurd (omega arith)
names_key (suc zero) s low h = absurd (omega arith)
names_key (suc (suc zero)) s low h = absurd (omega arith)
names_key (suc (suc (suc zero))) s low h = refl
names_key (suc (suc (suc (suc zero)))) s low h = refl
names_key (suc (suc (suc (suc (suc kind))))) s low h = absurd (omega arith)

-- a type that is none of those with a part
other : (kind : ℕ) (s : List ℕ) → 5 ≤ kind → (kind ≡ 8 → ⊥) → choice kind s ≡ cond (leb 9 kind) (Refused kind (UnsupportedSrtExtensionType kind)) (Refused kind (LaterType kind))
other kind s low apart =
    simp (
      ne_eqb kind 0 (λ e. omega arith),
      ne_eqb kind 1 (λ e. omega arith),
      ne_eqb kind 2 (λ e. omega arith),
      ne_eqb kind 3 (λ e. omega arith),
      ne_eqb kind 4 (λ e. omega arith),
      ne_eqb kind 8 apart,
    )

pub choice-refuses-first : ChoiceRefusesFirst
choice-refuses-first kind s = (
  (λ low high. other kind s low (λ e. omega arith) ∙ simp (lt-leb 9 kind (omega arith))),
  (λ h. other kind s (omega arith) (λ e. omega arith) ∙ simp (le-leb 9 kind h)),
)

-- ---- what a part that is read makes of the answer

module _ (kind n : ℕ) (h : SrtHandshake) {r : Result (SrtHandshake × ℕ) Refusal} (e : r ≡ Ok (h, n)) where
  pub handshake-asked : kind ≡ 1 → HandshakeRequest h n ≡ handshake_part kind r
  handshake-asked k = rw e (simp (eq-eqb kind 1 k))

  pub handshake-answered : (kind ≡ 1 → ⊥) → HandshakeResponse h n ≡ handshake_part kind r
  handshake-answered k = rw e (simp (ne_eqb kind 1 k))

-- ---- the type and the size of the answer

handshake-types : (r : Result (SrtHandshake × ℕ) Refusal) → (type_id (handshake_part 1 r) ≡ 1) × (type_id (handshake_part 2 r) ≡ 2)
handshake-types (Ok (h, n)) = (refl, refl)
handshake-types (Err why) = (refl, refl)

key-types : (r : Result (KeyingMaterialMessage × ℕ) Refusal) → (type_id (key_part 3 r) ≡ 3) × (type_id (key_part 4 r) ≡ 4)
key-types (Ok (k, n)) = (refl, refl)
key-types (Err why) = (refl, refl)

group-type : (r : Result (Group × ℕ) Refusal) → type_id (group_part r) ≡ 8
group-type (Ok (g, n)) = refl
group-type (Err why) = refl

pub choice-names-type : ChoiceNamesType
choice-names-type zero s = refl
choice-names-type (suc zero) s = (handshake-types (handshake_read s)).0
choice-names-type (suc (suc zero)) s = (handshake-types (handshake_read s)).1
choice-names-type (suc (suc (suc zero))) s = (key-types (key_read s)).0
choice-names-type (suc (suc (suc (suc zero)))) s = (key-types (key_read s)).1
choice-names-type (suc (suc (suc (suc (suc zero))))) s = refl
choice-names-type (suc (suc (suc (suc (suc (suc zero)))))) s = refl
choice-names-type (suc (suc (suc (suc (suc (suc (suc zero))))))) s = refl
choice-names-type (suc (suc (suc (suc (suc (suc (suc (suc zero)))))))) s = group-type (group_read s)
choice-names-type (suc (suc (suc (suc (suc (suc (suc (suc (suc kind))))))))) s =
    ap type_id ((choice-refuses-first (suc (suc (suc (suc (suc (suc (suc (suc (suc kind))))))))) s).1 (omega arith))

-- the crate's size in words is the bytes used
abbrev Sized : SrtControlPacket → Type 0
Sized p = used_by p ≡ 4 * size_words p

-- a part's size, by the test or the verdict that decides it
handshake-sizes : (s : List ℕ) (b : Bool) → Sized (handshake_part 1 (cond b (Err NotEnoughData) (Ok (handshake_of s, handshake_size))))
    × Sized (handshake_part 2 (cond b (Err NotEnoughData) (Ok (handshake_of s, handshake_size))))
handshake-sizes s true = (refl, refl)
handshake-sizes s false = (refl, refl)

group-size : (s : List ℕ) (b : Bool) → Sized (group_part (cond b (Err NotEnoughData) (Ok (group_of s, group_size))))
group-size s true = refl
group-size s false = refl

key-sizes : (s : List ℕ) (j : Judged) → Sized (key_part 3 (key_answer j s)) × Sized (key_part 4 (key_answer j s))
key-sizes s (Ok _) = (omega arith, omega arith)
key-sizes s (Err fault) = (refl, refl)

pub choice-size : ChoiceSize
choice-size zero s = refl
choice-size (suc zero) s = (handshake-sizes s (ltb (length s) handshake_size)).0
choice-size (suc (suc zero)) s = (handshake-sizes s (ltb (length s) handshake_size)).1
choice-size (suc (suc (suc zero))) s = (key-sizes s (key_judged s)).0
choice-size (suc (suc (suc (suc zero)))) s = (key-sizes s (key_judged s)).1
choice-size (suc (suc (suc (suc (suc zero))))) s = refl
choice-size (suc (suc (suc (suc (suc (suc zero)))))) s = refl
choice-size (suc (suc (suc (suc (suc (suc (suc zero))))))) s = refl
choice-size (suc (suc (suc (suc (suc (suc (suc (suc zero)))))))) s = group-size s (ltb (length s) group_size)
choice-size (suc (suc (suc (suc (suc (suc (suc (suc (suc kind))))))))) s =
    let e = (choice-refuses-first (suc (suc (suc (suc (suc (suc (suc (suc (suc kind))))))))) s).1 (omega arith) in
    ap used_by e ∙ sym (ap (λ (p : SrtControlPacket). 4 * size_words p) e)
