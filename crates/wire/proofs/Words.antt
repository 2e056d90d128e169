-- Bytes as words: how many, what stands at each place, and that either gives the other back. Assumes nothing.
use mathlib.Core.Path.{◌≡◌, refl, ap}
use mathlib.Core.List.{List, [], ◌∷◌, ◌++◌}
use Prim.Native.Nat.{ℕ, zero, suc, ◌+◌, ◌*◌, ◌/◌, ◌%◌, ◌^◌, ◌<◌, ◌≤◌}
use native.Mathlib.Omega.{arith}
use lib.ListN.{length}
use Rattle.wire.specs.Bytes.{Octets, byte_at, number16, number32, bytes16, bytes32, in_bytes, in_words, word_at}

-- ---- one number and its bytes

pub word_back : (w : ℕ) → w < 2 ^ 32 → number32 (w / 2 ^ 24 % 2 ^ 8) (w / 2 ^ 16 % 2 ^ 8) (w / 2 ^ 8 % 2 ^ 8) (w % 2 ^ 8) ≡ w
word_back w h =
    let first : w / 0x100_0000 % 256 * 0x100_0000 + w / 0x1_0000 % 256 * 0x1_0000 ≡ w / 0x1_0000 * 0x1_0000 = omega arith in
    let second : w / 0x1_0000 * 0x1_0000 + w / 256 % 256 * 256 ≡ w / 256 * 256 = omega arith in
    let third : w / 256 * 256 + w % 256 ≡ w = omega arith in
    omega arith

pub half_back : (n : ℕ) → n < 2 ^ 16 → number16 (n / 2 ^ 8 % 2 ^ 8) (n % 2 ^ 8) ≡ n
half_back n h = omega arith

pub four-back : (a b c d : ℕ) → a < 256 → b < 256 → c < 256 → d < 256 → bytes32 (number32 a b c d) ≡ a ∷ b ∷ c ∷ d ∷ []
four-back a b c d ha hb hc hd =
    let w : ℕ = number32 a b c d in
    let at0 : w / 0x100_0000 % 256 ≡ a = omega arith in
    let at1 : w / 0x1_0000 % 256 ≡ b = omega arith in
    let at2 : w / 256 % 256 ≡ c = omega arith in
    let at3 : w % 256 ≡ d = omega arith in
    λ i. at0 i ∷ at1 i ∷ at2 i ∷ at3 i ∷ []

pub two_back : (a b : ℕ) → a < 256 → b < 256 → bytes16 (number16 a b) ≡ a ∷ b ∷ []
two_back a b ha hb =
    let at0 : number16 a b / 256 % 256 ≡ a = omega arith in
    let at1 : number16 a b % 256 ≡ b = omega arith in
    λ i. at0 i ∷ at1 i ∷ []

-- ---- lists of words

pub length-in_words : (bs : List ℕ) → length (in_words bs) ≡ length bs / 4
unfolding in_words
length-in_words [] = refl
length-in_words (a ∷ []) = refl
length-in_words (a ∷ b ∷ []) = refl
length-in_words (a ∷ b ∷ c ∷ []) = refl
length-in_words (a ∷ b ∷ c ∷ d ∷ bs) = omega (arith, length-in_words bs)

pub word-here : (bs : List ℕ) (i : ℕ) → 4 * i + 4 ≤ length bs
    → word_at bs i ≡ number32 (byte_at bs (4 * i)) (byte_at bs (4 * i + 1)) (byte_at bs (4 * i + 2)) (byte_at bs (4 * i + 3))
unfolding in_words
word-here [] i h = absurd (omega arith)
word-here (a ∷ []) i h = absurd (omega arith)
word-here (a ∷ b ∷ []) i h = absurd (omega arith)
word-here (a ∷ b ∷ c ∷ []) i h = absurd (omega arith)
word-here (a ∷ b ∷ c ∷ d ∷ bs) zero h = refl
word-here (a ∷ b ∷ c ∷ d ∷ bs) (suc i) h =
    let at0 : 4 * suc i ≡ suc (suc (suc (suc (4 * i)))) = omega arith in
    let at1 : 4 * suc i + 1 ≡ suc (suc (suc (suc (4 * i + 1)))) = omega arith in
    let at2 : 4 * suc i + 2 ≡ suc (suc (suc (suc (4 * i + 2)))) = omega arith in
    let at3 : 4 * suc i + 3 ≡ suc (suc (suc (suc (4 * i + 3)))) = omega arith in
    rw (at3, at2, at1, at0) (word-here bs i (omega arith))

-- every element is below b
abbrev pub Below : ℕ → List ℕ → Type 0
Below b [] = Unit {0}
Below b (x ∷ xs) = (x < b) × Below b xs

pub below-append : (b : ℕ) (xs ys : List ℕ) → Below b xs → Below b ys → Below b (xs ++ ys)
below-append b [] ys h g = g
below-append b (x ∷ xs) ys h g = (h.0, below-append b xs ys h.1 g)

pub length-in_bytes : (ws : List ℕ) → length (in_bytes ws) ≡ 4 * length ws
unfolding in_bytes
length-in_bytes [] = refl
length-in_bytes (w ∷ ws) = omega (arith, length-in_bytes ws)

pub words_back : (ws : List ℕ) → Below (2 ^ 32) ws → in_words (in_bytes ws) ≡ ws
unfolding in_bytes in_words
words_back [] h = refl
words_back (w ∷ ws) h = rw (word_back w h.0) (ap (λ (l : List ℕ). w ∷ l) (words_back ws h.1))

pub octets-below : (bs : List ℕ) → Octets bs → Below 256 bs
octets-below [] o = tt
octets-below (b ∷ bs) o = (o 0, octets-below bs (λ i. o (suc i)))

pub bytes_back : (bs : List ℕ) → length bs % 4 ≡ 0 → Below 256 bs → in_bytes (in_words bs) ≡ bs
unfolding in_bytes in_words
bytes_back [] m h = refl
bytes_back (a ∷ []) m h = absurd (omega arith)
bytes_back (a ∷ b ∷ []) m h = absurd (omega arith)
bytes_back (a ∷ b ∷ c ∷ []) m h = absurd (omega arith)
bytes_back (a ∷ b ∷ c ∷ d ∷ bs) m h =
    λ i. four-back a b c d h.0 h.1.0 h.1.1.0 h.1.1.1.0 i ++ bytes_back bs (omega arith) h.1.1.1.1 i
