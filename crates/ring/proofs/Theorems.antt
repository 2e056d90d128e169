-- What the ring's definitions say of one another, for every width k: RULES 2, rule by rule.
-- Assumes nothing.
use mathlib.Core.Path.{◌≡◌, refl, sym, ap, subst, ◌∙◌}
use mathlib.Core.Bool.{Bool, true, false, cond}
use mathlib.Core.Logic.{◌↔◌, ◌⊎◌, inl, inr}
use Prim.Native.Nat.{ℕ, zero, suc, ◌+◌, ◌-◌, ◌^◌, ◌%◌, ◌<◌, ◌≤◌}
use native.Mathlib.Nat.{mod-lt, mod-mod, mod_self, mod-eq_of_lt, mod-add-mod, add-mod-mod, add-mod_right, add_comm, eq-or-lt_of_le}
use native.Mathlib.Omega.{arith}
use borrow.Author.Tests.{ltb-true, ltb-false}
use lib.Dec.{T, ltb, lt→ltb, ltb→lt, le→leb}
use lib.Pow.{pow_pos}
use lib.IntN.{ℤ, pos, negsuc, neg_ℤ, ◌-ℤ◌}
use lib.Signed.{◌≤ℤ◌, ◌<ℤ◌, le_z_yes, lt_z_yes}
use Rattle.ring.specs.declared.Ordering.{Ordering}
use Rattle.ring.specs.declared.Ordering.TheVariants.{Less, Equal, Greater, Opposite}
use Rattle.ring.specs.Ring.{truncated, after, before, distance, half, ordered, compared, Says, OnlyOne, signed, signed_distance}
use Rattle.ring.proofs.Laws.{two-halves, behind, ordered-equal, ordered-opposite, ordered-greater, ordered-less, says}

-- going n steps on and n steps back is no step
undone : (m a n : ℕ) → 0 < m → (a + (m - n % m) + n) % m ≡ a % m
undone m a n h =
    let r = mod-lt n h in
    let all : a + (m - n % m) + n % m ≡ a + m = omega arith in
    sym (add-mod-mod (a + (m - n % m)) n m) ∙ rw all (add-mod_right a m)

module _ (k : ℕ) where
  -- "An operand outside the ring is truncated first."
  pub after-truncated : (a n : ℕ) → after k (truncated k a) (truncated k n) ≡ after k a n
  after-truncated a n = mod-add-mod a (2 ^ k) (n % 2 ^ k) ∙ add-mod-mod a n (2 ^ k)

  pub before-truncated : (a n : ℕ) → before k (truncated k a) (truncated k n) ≡ before k a n
  before-truncated a n =
      mod-add-mod a (2 ^ k) (2 ^ k - n % 2 ^ k % 2 ^ k) ∙ ap (λ (r : ℕ). (a + (2 ^ k - r)) % 2 ^ k) (mod-mod n (2 ^ k))

  pub compared-truncated : (a b : ℕ) → compared k (truncated k a) (truncated k b) ≡ compared k a b
  compared-truncated a b = ap (ordered k) (before-truncated a b)

  -- "Adding or taking away any 32-bit offset: the exact sum or difference, reduced to the ring."
  pub before-exact : (a n : ℕ) → n ≤ a → before k a n ≡ truncated k (a - n)
  before-exact a n h =
      let same : a + (2 ^ k - n % 2 ^ k) ≡ a - n + (2 ^ k - n % 2 ^ k) + n = omega arith in
      ap (λ (s : ℕ). s % 2 ^ k) same ∙ undone (2 ^ k) (a - n) n (pow_pos k)

  -- what is taken away and added again leaves the number, and so does what is added and taken away
  pub after-before : (a n : ℕ) → after k (before k a n) n ≡ truncated k a
  after-before a n = mod-add-mod (a + (2 ^ k - n % 2 ^ k)) (2 ^ k) n ∙ undone (2 ^ k) a n (pow_pos k)

  pub before-after : (a n : ℕ) → before k (after k a n) n ≡ truncated k a
  before-after a n =
      let same : a + n + (2 ^ k - n % 2 ^ k) ≡ a + (2 ^ k - n % 2 ^ k) + n = omega arith in
      mod-add-mod (a + n) (2 ^ k) (2 ^ k - n % 2 ^ k) ∙ ap (λ (s : ℕ). s % 2 ^ k) same ∙ undone (2 ^ k) a n (pow_pos k)

  -- "Distance a - b: reduced to 0 .. 2^31 - 1": so many steps lead from b to a
  pub distance-in : (a b : ℕ) → distance k a b < 2 ^ k
  distance-in a b = mod-lt (a + (2 ^ k - b % 2 ^ k)) (pow_pos k)

  pub distance-leads : (a b : ℕ) → after k b (distance k a b) ≡ truncated k a
  distance-leads a b =
      let same : b + (a + (2 ^ k - b % 2 ^ k)) ≡ a + (2 ^ k - b % 2 ^ k) + b = omega arith in
      add-mod-mod b (a + (2 ^ k - b % 2 ^ k)) (2 ^ k) ∙ ap (λ (s : ℕ). s % 2 ^ k) same ∙ undone (2 ^ k) a b (pow_pos k)

  -- "Equal if 0": and then they are the same number of the ring
  pub distance_none : (a b : ℕ) → (distance k a b ≡ 0) ↔ (truncated k a ≡ truncated k b)
  distance_none a b = (there, back)
    where
      there : distance k a b ≡ 0 → truncated k a ≡ truncated k b
      there e =
          let none : b + distance k a b ≡ b = omega arith in
          sym (distance-leads a b) ∙ ap (λ (s : ℕ). s % 2 ^ k) none

      back : truncated k a ≡ truncated k b → distance k a b ≡ 0
      back e =
          let r = mod-lt b (pow_pos k) in
          let all : a % 2 ^ k + (2 ^ k - b % 2 ^ k) ≡ 2 ^ k = omega arith in
          sym (mod-add-mod a (2 ^ k) (2 ^ k - b % 2 ^ k)) ∙ ap (λ (s : ℕ). s % 2 ^ k) all ∙ mod_self (2 ^ k)

  -- n steps on, the distance is n
  pub distance-after : (a n : ℕ) → distance k (after k a n) a ≡ truncated k n
  distance-after a n = ap (λ (s : ℕ). distance k (truncated k s) a) (add_comm a n) ∙ before-after n a

  -- where some steps lead from b to a, the rest of the ring leads back
  rest-leads : (a b : ℕ) → after k a (2 ^ k - distance k a b) ≡ truncated k b
  rest-leads a b =
      let rest = 2 ^ k - distance k a b in
      let all : b + distance k a b + rest ≡ b + 2 ^ k = omega (arith, distance-in a b) in
      sym (mod-add-mod a (2 ^ k) rest) ∙ rw (sym (distance-leads a b)) (mod-add-mod (b + distance k a b) (2 ^ k) rest ∙ ap (λ (s : ℕ). s % 2 ^ k) all ∙ add-mod_right b (2 ^ k))

  pub distance_back : (a b : ℕ) → distance k b a ≡ truncated k (2 ^ k - distance k a b)
  distance_back a b =
      sym (mod-add-mod b (2 ^ k) (2 ^ k - a % 2 ^ k)) ∙ ap (λ (c : ℕ). distance k c a) (sym (rest-leads a b)) ∙ distance-after a (2 ^ k - distance k a b)

-- a ring has a bit where a step leads to another number
a-bit : (k d : ℕ) → 0 < d → d < 2 ^ k → 0 < k
a-bit zero d some l = absurd (omega arith)
a-bit (suc j) d some l = omega arith

module _ (k : ℕ) where
  -- an answer is given exactly when what it says of the distance is so
  compared_is : (a b : ℕ) (o : Ordering) → (compared k a b ≡ o) ↔ Says k (distance k a b) o
  compared_is a b o = (λ e. subst (Says k (distance k a b)) e (says k (distance k a b)), back o)
    where
      back : (o : Ordering) → Says k (distance k a b) o → compared k a b ≡ o
      back Equal t = sym (ordered-equal k (distance k a b) t)
      back Opposite t = sym (ordered-opposite k (distance k a b) t)
      back Greater t = sym (ordered-greater k (distance k a b) (λ z. omega arith) t.1)
      back Less t = sym (ordered-less k (distance k a b) (λ z. omega arith) (omega arith))

  -- exactly one of Less, Equal, Greater and Opposite
  pub exactly-one : (a b : ℕ) → OnlyOne k a b (compared k a b)
  exactly-one a b = record { so = says k (distance k a b); alone = λ o t. sym ((compared_is a b o).1 t) }

  -- "Equal where d is 0": and then they are the same number of the ring
  pub compared-equal : (a b : ℕ) → (compared k a b ≡ Equal) ↔ (truncated k a ≡ truncated k b)
  compared-equal a b =
      (λ e. (distance_none k a b).0 ((compared_is a b Equal).0 e), λ e. (compared_is a b Equal).1 ((distance_none k a b).1 e))

  -- and each of the others exactly at its distances
  pub compared-opposite : (a b : ℕ) → (compared k a b ≡ Opposite) ↔ (distance k a b ≡ half k)
  compared-opposite a b = compared_is a b Opposite

  pub compared-greater : (a b : ℕ) → (compared k a b ≡ Greater) ↔ ((0 < distance k a b) × (distance k a b < half k))
  compared-greater a b = compared_is a b Greater

  pub compared-less : (a b : ℕ) → (compared k a b ≡ Less) ↔ (half k < distance k a b)
  compared-less a b = compared_is a b Less

  -- the steps from a number to another and those back are twice half the ring
  there_and_back : (a b : ℕ) → 0 < distance k a b → (0 < distance k b a) × (distance k a b + distance k b a ≡ half k + half k)
  there_and_back a b some =
      let l = distance-in k a b in
      let rest : distance k b a ≡ 2 ^ k - distance k a b = distance_back k a b ∙ mod-eq_of_lt (omega arith) in
      omega (arith, two-halves k (a-bit k (distance k a b) some l))

  -- Less one way is Greater the other
  pub less-greater : (a b : ℕ) → (compared k a b ≡ Less) ↔ (compared k b a ≡ Greater)
  less-greater a b = (there, back)
    where
      there : compared k a b ≡ Less → compared k b a ≡ Greater
      there e =
          let past = (compared-less a b).0 e in
          (compared-greater b a).1 (omega (arith, there_and_back a b (omega arith)))

      back : compared k b a ≡ Greater → compared k a b ≡ Less
      back e =
          let short = (compared-greater b a).0 e in
          (compared-less a b).1 (omega (arith, there_and_back b a short.0))

  -- Opposite both ways or neither
  opposite-back : (a b : ℕ) → compared k a b ≡ Opposite → compared k b a ≡ Opposite
  opposite-back a b e =
      let far = (compared-opposite a b).0 e in
      (compared-opposite b a).1 (omega (arith, there_and_back a b (omega (arith, pow_pos (k - 1)))))

  pub opposite-both : (a b : ℕ) → (compared k a b ≡ Opposite) ↔ (compared k b a ≡ Opposite)
  opposite-both a b = (opposite-back a b, opposite-back b a)

  -- no two numbers are each Less than the other
  pub not-both-less : (a b : ℕ) → compared k a b ≡ Less → compared k b a ≡ Less → ⊥
  not-both-less a b e f =
      let short = (compared-greater b a).0 ((less-greater a b).0 e) in
      omega (arith, (compared-less b a).0 f)

  -- in a ring of a bit or more every number has its Opposite, half the ring on
  pub opposite-there : 0 < k → (a : ℕ) → compared k (after k a (half k)) a ≡ Opposite
  opposite-there bit a =
      (compared-opposite (after k a (half k)) a).1 (distance-after k a (half k) ∙ mod-eq_of_lt (omega (arith, two-halves k bit, pow_pos (k - 1))))

below-zero : (n : ℕ) → 0 < n → neg_ℤ (pos n) ≡ negsuc (n - 1)
below-zero zero h = absurd (omega arith)
below-zero (suc n) h = ap negsuc (omega arith)

not-below : (n : ℕ) → T (ltb n 0) → ⊥
not-below n t = omega (arith, ltb→lt n 0 t)

-- the signed distance of d: d itself, or so far below zero
data Signed (k d : ℕ) : ℤ → Type 0 where
  kept : d < half k → Signed k d (pos d)
  turned : half k ≤ d → Signed k d (negsuc (2 ^ k - suc d))

signed_is : (k d : ℕ) → d < 2 ^ k → Signed k d (signed k d)
unfolding signed
signed_is k d l = go (ltb d (half k)) refl
  where
    go : (b : Bool) → ltb d (half k) ≡ b → Signed k d (cond b (pos d) (pos d -ℤ pos (2 ^ k)))
    go true e = kept (ltb-true d (half k) e)
    go false e = subst (Signed k d) (sym (behind d (2 ^ k) l)) (turned (ltb-false d (half k) e))

module _ (k : ℕ) where
  -- "So it is at least -2^(k-1) and below 2^(k-1) .."
  lies : (d : ℕ) {z : ℤ} → d < 2 ^ k → Signed k d z → (neg_ℤ (pos (half k)) ≤ℤ z) × (z <ℤ pos (half k))
  lies d l (kept h) = (rw (below-zero (half k) (pow_pos (k - 1))) (le_z_yes tt), lt_z_yes (lt→ltb d (half k) h))
  lies d l (turned h) =
      let some = pow_pos (k - 1) in
      let halves = two-halves k (a-bit k d (omega arith) l) in
      (rw (below-zero (half k) some) (le_z_yes (le→leb (2 ^ k - suc d) (half k - 1) (omega arith))), lt_z_yes tt)

  pub signed-lies : (a b : ℕ) → (neg_ℤ (pos (half k)) ≤ℤ signed_distance k a b) × (signed_distance k a b <ℤ pos (half k))
  signed-lies a b = lies (distance k a b) (distance-in k a b) (signed_is k (distance k a b) (distance-in k a b))

  -- ".. below 0 exactly where `cmp(a, b)` is Less or Opposite .."
  negative : (d : ℕ) {z : ℤ} → Signed k d z → (z <ℤ pos 0) ↔ (half k ≤ d)
  negative d (kept h) = (λ n. absurd (not-below d n.lt), λ l. absurd (omega arith))
  negative d (turned h) = (λ n. h, λ l. lt_z_yes tt)

  pub signed-negative : (a b : ℕ) → (signed_distance k a b <ℤ pos 0) ↔ ((compared k a b ≡ Less) ⊎ (compared k a b ≡ Opposite))
  signed-negative a b = (λ s. there (eq-or-lt_of_le (n.0 s)), λ e. n.1 (back e))
    where
      n : (signed_distance k a b <ℤ pos 0) ↔ (half k ≤ distance k a b)
      n = negative (distance k a b) (signed_is k (distance k a b) (distance-in k a b))

      there : (half k ≡ distance k a b) ⊎ (half k < distance k a b) → (compared k a b ≡ Less) ⊎ (compared k a b ≡ Opposite)
      there (inl e) = inr ((compared-opposite k a b).1 (sym e))
      there (inr l) = inl ((compared-less k a b).1 l)

      back : (compared k a b ≡ Less) ⊎ (compared k a b ≡ Opposite) → half k ≤ distance k a b
      back (inl e) = omega (arith, (compared-less k a b).0 e)
      back (inr e) = omega (arith, (compared-opposite k a b).0 e)

  -- ".. and -2^(k-1) exactly where it is Opposite."
  least : (d : ℕ) {z : ℤ} → d < 2 ^ k → Signed k d z → (z ≡ negsuc (half k - 1)) ↔ (d ≡ half k)
  least d l (kept h) = (λ e. let z : ◌≡◌ {A = ℕ} 0 1 = cc in absurd (omega arith), λ e. absurd (omega arith))
  least d l (turned h) =
      let some = pow_pos (k - 1) in
      let halves = two-halves k (a-bit k d (omega arith) l) in
      (λ e. let same : 2 ^ k - suc d ≡ half k - 1 = cc in omega arith, λ e. ap negsuc (omega arith))

  pub signed-opposite : (a b : ℕ) → (compared k a b ≡ Opposite) ↔ (signed_distance k a b ≡ neg_ℤ (pos (half k)))
  signed-opposite a b =
      let n = least (distance k a b) (distance-in k a b) (signed_is k (distance k a b) (distance-in k a b)) in
      let z = below-zero (half k) (pow_pos (k - 1)) in
      (λ e. n.1 ((compared-opposite k a b).0 e) ∙ sym z, λ e. (compared-opposite k a b).1 (n.0 (e ∙ z)))
