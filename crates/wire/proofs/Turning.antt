-- A word read the lowest byte first, and turned, is the word as it stands. Assumes nothing.
use mathlib.Core.Path.{◌≡◌}
use mathlib.Core.List.{[], ◌∷◌}
use Prim.Native.Nat.{ℕ, ◌+◌, ◌*◌, ◌/◌, ◌%◌, ◌<◌}
use native.Mathlib.Omega.{arith}
use Rattle.std.specs.Int.{w32, from_le_bytes, swap_bytes}
use Rattle.wire.specs.Bytes.{number32}

-- the bytes of a word, one by one
module _ (a b c d v : ℕ) (w : v ≡ a + b * 256 + c * 0x1_0000 + d * 0x100_0000) (la : a < 256) (lb : b < 256) (lc : c < 256) (ld : d < 256) where
  above0 : v / 256 ≡ b + c * 256 + d * 0x1_0000
  above0 = omega arith

  above1 : v / 0x1_0000 ≡ c + d * 256
  above1 = omega arith

  byte0 : v % 256 ≡ a
  byte0 = omega arith

  byte1 : v / 256 % 256 ≡ b
  byte1 = rw above0 (omega arith)

  byte2 : v / 0x1_0000 % 256 ≡ c
  byte2 = rw above1 (omega arith)

  byte3 : v / 0x100_0000 % 256 ≡ d
  byte3 = omega arith

  turns : swap_bytes w32 v ≡ number32 a b c d
  turns = omega (arith, byte0, byte1, byte2, byte3)

pub turned-number : (a b c d : ℕ) → a < 256 → b < 256 → c < 256 → d < 256 → swap_bytes w32 (from_le_bytes w32 (a ∷ b ∷ c ∷ d ∷ [])) ≡ number32 a b c d
turned-number a b c d ha hb hc hd = turns a b c d (from_le_bytes w32 (a ∷ b ∷ c ∷ d ∷ [])) (omega arith) ha hb hc hd
