-- The ring's laws, for every width k. Both rings' proofs cite them. Assumes nothing.
use mathlib.Core.Path.{◌≡◌, refl, sym, ap, ◌∙◌}
use Prim.Native.Nat.{ℕ, zero, suc, ◌+◌, ◌-◌, ◌^◌, ◌%◌, ◌<◌, ◌≤◌}
use native.Mathlib.Nat.{two-pow-succ}
use native.Mathlib.Omega.{arith}
use borrow.Author.Tests.{lt-ltb, le-ltb, eq-eqb, ne_eqb, ltb-true, ltb-false, eqb-true, eqb-false}
use lib.Dec.{ltb, eqb}
use lib.Arith.{lt_of_le-ne}
use lib.Bits.{bit_and, and_mask}
use Rattle.std.proofs.lemmas.Nat.{pow_below}
use lib.Pow.{pow_pos, mod-mod-pow}
use mathlib.Core.Bool.{Bool, true, false, cond}
use lib.IntN.{pos, negsuc, ◌-ℤ◌}
use mir.Syntax.{w32}
use mir.Val.{SFits, to_z, of_z}
use mir.Facts.{to_z_pos, to_z-of_z}
use Rattle.ring.specs.declared.Ordering.{Ordering}
use Rattle.ring.specs.declared.Ordering.TheVariants.{Less, Equal, Greater, Opposite}
use Rattle.ring.specs.Ring.{after, half, ordered, Says, is_less, signed}

-- The size of a ring of up to 32 bits divides 2^32: of a sum that wraps there, the lowest k bits are the ring's sum.
pub masked-sum : (k a n : ℕ) → k ≤ 32 → bit_and ((a + n) % 2 ^ 32) (2 ^ k - 1) ≡ after k a n
masked-sum k a n h =
    let all : 32 ≡ 32 - k + k = omega arith in
    and_mask ((a + n) % 2 ^ 32) k ∙ ap (λ (w : ℕ). (a + n) % 2 ^ w % 2 ^ k) all ∙ mod-mod-pow (a + n) (32 - k) k

-- a ring of a bit or more is two halves
pub two-halves : (k : ℕ) → 0 < k → 2 ^ k ≡ half k + half k
two-halves zero h = absurd (omega arith)
two-halves (suc j) h =
    let less : suc j - 1 ≡ j = omega arith in
    rw less (two-pow-succ j)

-- and where it leaves a word a bit for a sign, the word's signed numbers go past half of it
pub half-in : (k : ℕ) → k < 32 → half k < 2 ^ 31
half-in k h = pow_below (k - 1) 31 (omega arith)

-- a difference of two naturals that is below zero
pub behind : (d m : ℕ) → d < m → pos d -ℤ pos m ≡ negsuc (m - suc d)
behind d zero h = absurd (omega arith)
behind d (suc m) h = simp (lt-ltb d (suc m) h)

-- the code's negation of a number that an `i32` holds
negated-is : (e : ℕ) → 0 < e → e < 2 ^ 31 → pos 0 -ℤ to_z w32 e ≡ negsuc (e - 1)
negated-is e p l = simp (to_z_pos w32 l, behind 0 e p)

pub negated_fits : (e : ℕ) → 0 < e → e < 2 ^ 31 → SFits w32 (pos 0 -ℤ to_z w32 e)
negated_fits e p l = rw (negated-is e p l) (record { sfits = omega arith })

negated : (e : ℕ) → 0 < e → e < 2 ^ 31 → to_z w32 (of_z w32 (pos 0 -ℤ to_z w32 e)) ≡ negsuc (e - 1)
negated e p l = to_z-of_z (negated_fits e p l) ∙ negated-is e p l

module _ (k d : ℕ) where
  pub ordered-equal : d ≡ 0 → Equal ≡ ordered k d
  unfolding ordered
  ordered-equal h = simp (eq-eqb d 0 h)

  pub ordered-opposite : d ≡ half k → Opposite ≡ ordered k d
  unfolding ordered
  ordered-opposite h = simp (ne_eqb d 0 (λ z. omega (arith, pow_pos (k - 1))), eq-eqb d (half k) h)

  pub ordered-greater : (d ≡ 0 → ⊥) → d < half k → Greater ≡ ordered k d
  unfolding ordered
  ordered-greater n h = simp (ne_eqb d 0 n, ne_eqb d (half k) (λ z. omega arith), lt-ltb d (half k) h)

  pub ordered-less : (d ≡ half k → ⊥) → half k ≤ d → Less ≡ ordered k d
  unfolding ordered
  ordered-less n h = simp (ne_eqb d 0 (λ z. omega (arith, pow_pos (k - 1))), ne_eqb d (half k) n, le-ltb d (half k) h)

  -- what the answer says is so
  pub says : Says k d (ordered k d)
  unfolding ordered
  says = go (eqb d 0) refl (eqb d (half k)) refl (ltb d (half k)) refl
    where
      go : (b : Bool) → eqb d 0 ≡ b → (c : Bool) → eqb d (half k) ≡ c → (l : Bool) → ltb d (half k) ≡ l → Says k d (cond b Equal (cond c Opposite (cond l Greater Less)))
      go true e c f l h = eqb-true d 0 e
      go false e true f l h = eqb-true d (half k) f
      go false e false f true h = (lt_of_le-ne (omega arith) (λ z. eqb-false d 0 e (sym z)), ltb-true d (half k) h)
      go false e false f false h = lt_of_le-ne (ltb-false d (half k) h) (λ z. eqb-false d (half k) f (sym z))

  -- Less begins one step past half the ring
  pub less-is : is_less (ordered k d) ≡ ltb (half k) d
  unfolding is_less
  less-is = go (ordered k d) says
    where
      go : (o : Ordering) → Says k d o → is_less o ≡ ltb (half k) d
      go Equal t = sym (le-ltb (half k) d (omega arith))
      go Opposite t = sym (le-ltb (half k) d (omega arith))
      go Greater t = sym (le-ltb (half k) d (omega arith))
      go Less t = sym (lt-ltb (half k) d t)

  pub signed-kept : d < half k → d < 2 ^ 31 → to_z w32 d ≡ signed k d
  unfolding signed
  signed-kept h l = rw (to_z_pos w32 l) (simp (lt-ltb d (half k) h))

  pub signed-turned : half k ≤ d → d < 2 ^ k → 2 ^ k - d < 2 ^ 31 → to_z w32 (of_z w32 (pos 0 -ℤ to_z w32 (2 ^ k - d))) ≡ signed k d
  unfolding signed
  signed-turned h b l =
      let same : 2 ^ k - d - 1 ≡ 2 ^ k - suc d = omega arith in
      rw (negated (2 ^ k - d) (omega arith) l, same) (simp (le-ltb d (half k) h, behind d (2 ^ k) b))

-- what the functions' proofs cite: of a mask, of Less and of a sign
pub ruleset mask_laws = (masked-sum, and_mask)

pub ruleset less_laws = (less-is)

pub ruleset sign_laws = (signed-kept, half-in)
