-- Runs of sequence numbers, and the two rules that both directions share: RULES 3.1 to 3.3. Assumes nothing.
use Rattle.std.specs.Prelude.{ℕ, zero, suc, ◌^◌, Bool, List, [], ◌∷◌, leb}
use Rattle.ring.specs.Ring.{after, compared, is_less}

-- RULES 8.1: the most words given, numbers given and numbers expanded
unfoldable pub limit : ℕ
limit = 65536

-- RULES 3.1: a word with bit 31 set: no sequence number, and the start of a range
abbrev pub flagged : ℕ → Bool
flagged w = leb (2 ^ 31) w

-- RULES 3.2: a is Less than b
unfoldable pub precedes : ℕ → ℕ → Bool
precedes a b = is_less (compared 31 a b)

-- a first number, and how many ring steps follow it
pub record Run : Type 0 where
  pub first : ℕ
  pub steps : ℕ

-- RULES 3.3: a, and the n numbers after it by ring steps
unfoldable pub stretch : ℕ → ℕ → List ℕ
stretch a zero = a ∷ []
stretch a (suc n) = a ∷ stretch (after 31 a 1) n

unfoldable pub numbers_in : Run → List ℕ
numbers_in r = stretch r.first r.steps
