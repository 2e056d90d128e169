-- The ring of 2^k numbers, for every width k: sequence numbers are the ring of 31, message numbers that of 26.
-- RULES 2. Assumes nothing.
use Rattle.std.specs.Prelude.{◌≡◌, ℕ, ◌+◌, ◌-◌, ◌^◌, ◌%◌, ◌<◌, Bool, true, false, cond, ltb, eqb, nat_lt, ℤ, pos, ◌-ℤ◌, Result, Ok, Err}
use Rattle.refusal.specs.declared.Field.{Field}
use Rattle.refusal.specs.declared.Refusal.{Refusal}
use Rattle.refusal.specs.declared.Refusal.TheVariants.{FieldTooWide}
use Rattle.ring.specs.declared.Ordering.{Ordering}
use Rattle.ring.specs.declared.Ordering.TheVariants.{Less, Equal, Greater, Opposite}

-- RULES 2.3: a number made by truncation
abbrev pub truncated : ℕ → ℕ → ℕ
truncated k a = a % 2 ^ k

-- RULES 2.4: the number itself inside the ring, else 22 carrying its field
unfoldable pub made_in : {N : Type 0} → ℕ → (ℕ → N) → Field → ℕ → Result N Refusal
made_in k from field a = cond (nat_lt a (2 ^ k)) (Ok (from a)) (Err (FieldTooWide field))

-- RULES 2.5: n steps after a
abbrev pub after : ℕ → ℕ → ℕ → ℕ
after k a n = truncated k (a + n)

-- RULES 2.5: n steps before a: the number from which n steps lead to a
abbrev pub before : ℕ → ℕ → ℕ → ℕ
before k a n = truncated k (a + (2 ^ k - truncated k n))

-- RULES 2.6: a - b, how many steps lead from b to a
abbrev pub distance : ℕ → ℕ → ℕ → ℕ
distance k a b = before k a b

-- half the ring
abbrev pub half : ℕ → ℕ
half k = 2 ^ (k - 1)

-- RULES 2.7: Equal at distance 0, Opposite at half the ring, Greater below it and Less above
unfoldable pub ordered : ℕ → ℕ → Ordering
ordered k d = cond (eqb d 0) Equal (cond (eqb d (half k)) Opposite (cond (ltb d (half k)) Greater Less))

abbrev pub compared : ℕ → ℕ → ℕ → Ordering
compared k a b = ordered k (distance k a b)

-- what each answer says of the distance
abbrev pub Says : ℕ → ℕ → Ordering → Type 0
Says k d Less = half k < d
Says k d Equal = d ≡ 0
Says k d Greater = (0 < d) × (d < half k)
Says k d Opposite = d ≡ half k

-- of two numbers, what one answer says is so, and what no other says
pub record OnlyOne (k a b : ℕ) (given : Ordering) : Type 0 where
  pub so : Says k (distance k a b) given
  pub alone : (other : Ordering) → Says k (distance k a b) other → other ≡ given

unfoldable pub is_less : Ordering → Bool
is_less Less = true
is_less Equal = false
is_less Greater = false
is_less Opposite = false

-- RULES 2.9: the distance if it is below half the ring, else the distance minus the ring
unfoldable pub signed : ℕ → ℕ → ℤ
signed k d = cond (ltb d (half k)) (pos d) (pos d -ℤ pos (2 ^ k))

abbrev pub signed_distance : ℕ → ℕ → ℕ → ℤ
signed_distance k a b = signed k (distance k a b)
