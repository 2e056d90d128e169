-- Bytes, and the numbers that they stand for, the highest byte first: RULES 1.1 to 1.3 and 1.10. Assumes nothing.
use Rattle.std.specs.Prelude.{ℕ, ◌+◌, ◌*◌, ◌/◌, ◌%◌, ◌^◌, ◌<◌, List, [], ◌∷◌, ◌++◌, get_or}

-- the byte at an offset, 0 past the end
abbrev pub byte_at : List ℕ → ℕ → ℕ
byte_at s i = get_or s i 0

-- every byte is below 256, as those of a byte slice are
abbrev pub Octets : List ℕ → Type 0
Octets s = (i : ℕ) → byte_at s i < 256

abbrev pub number16 : ℕ → ℕ → ℕ
number16 a b = a * 2 ^ 8 + b

abbrev pub number32 : ℕ → ℕ → ℕ → ℕ → ℕ
number32 a b c d = a * 2 ^ 24 + b * 2 ^ 16 + c * 2 ^ 8 + d

abbrev pub bytes16 : ℕ → List ℕ
bytes16 n = n / 2 ^ 8 % 2 ^ 8 ∷ n % 2 ^ 8 ∷ []

abbrev pub bytes32 : ℕ → List ℕ
bytes32 n = n / 2 ^ 24 % 2 ^ 8 ∷ n / 2 ^ 16 % 2 ^ 8 ∷ n / 2 ^ 8 % 2 ^ 8 ∷ n % 2 ^ 8 ∷ []

-- the words that bytes stand for, four to a word; what is left over is none
unfoldable pub in_words : List ℕ → List ℕ
in_words [] = []
in_words (a ∷ []) = []
in_words (a ∷ b ∷ []) = []
in_words (a ∷ b ∷ c ∷ []) = []
in_words (a ∷ b ∷ c ∷ d ∷ bs) = number32 a b c d ∷ in_words bs

-- the bytes of a list of words
unfoldable pub in_bytes : List ℕ → List ℕ
in_bytes [] = []
in_bytes (w ∷ ws) = bytes32 w ++ in_bytes ws

-- the word at a place, which counts words; 0 past the last whole one
abbrev pub word_at : List ℕ → ℕ → ℕ
word_at s i = get_or (in_words s) i 0
