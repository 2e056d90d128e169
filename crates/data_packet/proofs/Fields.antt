-- The second word is the sum of its fields, each in its place, and each field is what the sum has there; a name has its number and a number below
-- the bound its name.
-- Assumes nothing.
use Prim.Native.Nat.{ℕ, zero, suc, ◌+◌, ◌*◌, ◌/◌, ◌^◌, ◌<◌}
use mathlib.Core.Bool.{Bool, true, false}
use mathlib.Core.Path.{◌≡◌, refl, sym, ap, ◌∙◌}
use native.Mathlib.Omega.{arith}
use native.Mathlib.Nat.{div-add-mod', div-one, zero-add, mod-eq_of_lt}
use lib.Pow.{shr-shr, shr_lt}
use lib.Dec.{lit<}
use Rattle.packet_kinds.specs.declared.PacketLocation.{PacketLocation}
use Rattle.packet_kinds.specs.declared.PacketLocation.TheVariants.{First, Middle, Last, Only}
use Rattle.packet_kinds.specs.declared.DataEncryption.{DataEncryption}
use Rattle.packet_kinds.specs.declared.DataEncryption.TheVariants.{None, Even, Odd}
use Rattle.packet_kinds.specs.Kinds.{location, encryption, location_number, encryption_number}
use Rattle.data_packet.specs.Layout.{field, up}
use Rattle.data_packet.specs.Writing.{bit_of}

-- what stands above a place, as what stands above a field there, and the field
split : (low width w : ℕ) → w / 2 ^ low ≡ w / 2 ^ (low + width) * 2 ^ width + field low width w
split low width w = sym (div-add-mod' (w / 2 ^ low) (2 ^ width)) ∙ ap (λ (q : ℕ). q * 2 ^ width + field low width w) (shr-shr w low width)

-- the same at the bottom, where nothing stands below the field, and at the top of a word, where nothing stands above it
bottom : (width w : ℕ) → w ≡ w / 2 ^ width * 2 ^ width + field 0 width w
bottom width w = sym (div-one w) ∙ split 0 width w ∙ ap (λ (k : ℕ). w / 2 ^ k * 2 ^ width + field 0 width w) (zero-add width)

top : (low width w : ℕ) → w < 2 ^ (width + low) → field low width w ≡ w / 2 ^ low
top low width w h = mod-eq_of_lt (shr_lt width low h)

-- the second word's fields, out of the sum
pub record Fields (l o k r m w : ℕ) : Type 0 where
  pub loc : field 30 2 w ≡ l
  pub ord : field 29 1 w ≡ o
  pub key : field 27 2 w ≡ k
  pub ret : field 26 1 w ≡ r
  pub msg : field 0 26 w ≡ m
  pub fits : w < 2 ^ 32

pub fields-of-sum : (l o k r m : ℕ) → l < 4 → o < 2 → k < 3 → r < 2 → m < 2 ^ 26
    → Fields l o k r m (l * 2 ^ 30 + o * 2 ^ 29 + k * 2 ^ 27 + r * 2 ^ 26 + m)
fields-of-sum l o k r m hl ho hk hr hm = record { loc = omega arith; ord = omega arith; key = omega arith; ret = omega arith; msg = omega arith; fits = omega arith }

-- the sum, out of the second word's fields
pub sum-of-fields : (w : ℕ) → w < 2 ^ 32 → field 30 2 w * 2 ^ 30 + field 29 1 w * 2 ^ 29 + field 27 2 w * 2 ^ 27 + field 26 1 w * 2 ^ 26 + field 0 26 w ≡ w
sum-of-fields w h = sums (w / 2 ^ 26) (w / 2 ^ 27) (w / 2 ^ 29) (w / 2 ^ 30) _ _ _ _ _ (bottom 26 w) (split 26 1 w) (split 27 2 w) (split 29 1 w) (top 30 2 w h)
  where
    sums : (q26 q27 q29 q30 l o k r m : ℕ) → w ≡ q26 * 2 ^ 26 + m → q26 ≡ q27 * 2 ^ 1 + r → q27 ≡ q29 * 2 ^ 2 + k → q29 ≡ q30 * 2 ^ 1 + o → l ≡ q30
        → l * 2 ^ 30 + o * 2 ^ 29 + k * 2 ^ 27 + r * 2 ^ 26 + m ≡ w
    sums q26 q27 q29 q30 l o k r m e1 e2 e3 e4 e5 = omega arith

-- names and numbers
pub location-back : (l : PacketLocation) → location (location_number l) ≡ l
unfolding location
location-back Middle = refl
location-back First = refl
location-back Last = refl
location-back Only = refl

pub encryption-back : (k : DataEncryption) → encryption (encryption_number k) ≡ k
unfolding encryption
encryption-back None = refl
encryption-back Even = refl
encryption-back Odd = refl

pub up-back : (b : Bool) → up (bit_of b) ≡ b
up-back true = refl
up-back false = refl

pub location-number : (n : ℕ) → n < 4 → location_number (location n) ≡ n
unfolding location
location-number zero h = refl
location-number (suc zero) h = refl
location-number (suc (suc zero)) h = refl
location-number (suc (suc (suc zero))) h = refl
location-number (suc (suc (suc (suc n)))) h = absurd (omega arith)

pub encryption-number : (n : ℕ) → n < 3 → encryption_number (encryption n) ≡ n
unfolding encryption
encryption-number zero h = refl
encryption-number (suc zero) h = refl
encryption-number (suc (suc zero)) h = refl
encryption-number (suc (suc (suc n))) h = absurd (omega arith)

pub bit-number : (n : ℕ) → n < 2 → bit_of (up n) ≡ n
bit-number zero h = refl
bit-number (suc zero) h = refl
bit-number (suc (suc n)) h = absurd (omega arith)

pub location-small : (l : PacketLocation) → location_number l < 4
location-small Middle = lit< tt
location-small First = lit< tt
location-small Last = lit< tt
location-small Only = lit< tt

pub encryption-small : (k : DataEncryption) → encryption_number k < 3
encryption-small None = lit< tt
encryption-small Even = lit< tt
encryption-small Odd = lit< tt

pub bit-small : (b : Bool) → bit_of b < 2
bit-small true = lit< tt
bit-small false = lit< tt
