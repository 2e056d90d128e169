-- Decimal numbers as text: RULES 10.2. Assumes nothing.
use Rattle.std.specs.Prelude.{ℕ, zero, suc, ◌+◌, ◌/◌, ◌%◌, ◌^◌, ◌≤◌, ◌≡◌, Bool, true, false, cond, List, [], ◌∷◌, ◌++◌, ltb, leb, length, drop, Option, Some, None}
use Rattle.wire.specs.Bytes.{byte_at}
use Rattle.decimal.specs.declared.Number.{Number}

-- a digit's byte, and whether a byte is one
abbrev pub digit : ℕ → ℕ
digit d = 48 + d

abbrev pub is_digit : ℕ → Bool
is_digit b = cond (leb 48 b) (ltb b 58) false

-- the digits of n, the highest first, where it has no more than k + 1 of them
unfoldable pub digits_within : ℕ → ℕ → List ℕ
digits_within zero n = digit n ∷ []
digits_within (suc k) n = elim (ltb n 10) [ true ↦ digit n ∷ [] | false ↦ digits_within k (n / 10) ++ digit (n % 10) ∷ [] ]

-- RULES 10.2: a number in decimal, with no sign and no leading zero but for 0 itself; it never has more than n + 1 digits
unfoldable pub numeral : ℕ → List ℕ
numeral n = digits_within n n

-- bs begins with the number n, which goes on to where `rest` begins: no digit follows it
pub record Begins (bs : List ℕ) (n : ℕ) (rest : List ℕ) : Type 0 where
  pub text : bs ≡ numeral n ++ rest
  pub ends : is_digit (byte_at rest 0) ≡ false

-- a number of more than 32 bits counts as 2^32
abbrev pub capped : ℕ → ℕ
capped n = cond (ltb n (2 ^ 32)) n (2 ^ 32)

-- what stands at a place of s: a number and the place after it, or none
pub data NumberAt (s : List ℕ) (at : ℕ) : Option Number → Type 0 where
  number : (n : ℕ) {next : ℕ} → next ≤ length s → Begins (drop at s) n (drop next s) → NumberAt s at (Some (record { value = capped n; next = next }))
  none : ((n : ℕ) (rest : List ℕ) → Begins (drop at s) n rest → ⊥) → NumberAt s at None
