-- Numerals: a number of ten or more is the numeral of its tenth and its last digit, so digits that are added to a numeral
-- make the numeral of what they add up to, and a numeral adds up to its number. Assumes nothing.
use Prim.Native.Nat.{ℕ, zero, suc, ◌+◌, ◌-◌, ◌*◌, ◌/◌, ◌%◌, ◌^◌, ◌≤◌, ◌<◌}
use mathlib.Core.Path.{◌≡◌, refl, sym, ap, ◌∙◌, subst}
use mathlib.Core.Bool.{Bool, true, false, cond}
use mathlib.Core.List.{List, [], ◌∷◌, ◌++◌, append-nil}
use native.Mathlib.Omega.{arith}
use native.Mathlib.Decide.{dec_lt}
use borrow.Author.Tests.{ltb-true, leb-true, lt-ltb, le-ltb, le-leb}
use lib.Dec.{ltb, leb}
use lib.ListN.{length, drop, length-append, length-drop}
use lib.Seq.{append_snoc}
use Rattle.wire.specs.Bytes.{byte_at}
use Rattle.decimal.specs.Decimal.{digit, is_digit, digits_within, numeral, Begins, capped, NumberAt, number, none}
use Rattle.decimal.specs.declared.Number.{Number}
use Rattle.std.specs.Prelude.{Option, Some}

-- the bytes from 48 to 57 are the digits
pub digit-is : (d : ℕ) → d < 10 → is_digit (digit d) ≡ true
digit-is d h = rw (le-leb 48 (48 + d) (omega arith), lt-ltb (48 + d) 58 (omega arith))

pub digit-range : (b : ℕ) → is_digit b ≡ true → (48 ≤ b) × (b < 58)
digit-range b h = go (leb 48 b) (ltb b 58) refl refl h
  where
    go : (low high : Bool) → leb 48 b ≡ low → ltb b 58 ≡ high → cond low high false ≡ true → (48 ≤ b) × (b < 58)
    go true true el eh e = (leb-true 48 b el, ltb-true b 58 eh)
    go true false el eh e = absurd (let z : ◌≡◌ {A = ℕ} 0 1 = cc in omega arith)
    go false high el eh e = absurd (let z : ◌≡◌ {A = ℕ} 0 1 = cc in omega arith)

-- fuel of at least the number is enough
within-small : (k n : ℕ) → n < 10 → digits_within k n ≡ digit n ∷ []
unfolding digits_within
within-small zero n h = refl
within-small (suc k) n h = rw (lt-ltb n 10 h, digits_within)

within_more : (k n : ℕ) → 10 ≤ n → digits_within (suc k) n ≡ digits_within k (n / 10) ++ digit (n % 10) ∷ []
unfolding digits_within
within_more k n h = rw (le-ltb n 10 h, digits_within)

enough : (k j n : ℕ) → n ≤ k → n ≤ j → digits_within k n ≡ digits_within j n
enough zero j n hk hj = within-small zero n (omega arith) ∙ sym (within-small j n (omega arith))
enough (suc k) zero n hk hj = within-small (suc k) n (omega arith) ∙ sym (within-small zero n (omega arith))
enough (suc k) (suc j) n hk hj =
    let deeper : 10 ≤ n → digits_within k (n / 10) ≡ digits_within j (n / 10) = λ h. enough k j (n / 10) (omega arith) (omega arith) in
    elim (dec_lt n 10) [
      | yes h ↦ within-small (suc k) n h ∙ sym (within-small (suc j) n h)
      | no h ↦
          (let large : 10 ≤ n = omega arith in
          within_more k n large ∙ ap (λ (l : List ℕ). l ++ digit (n % 10) ∷ []) (deeper large) ∙ sym (within_more j n large))
    ]

pub numeral-small : (n : ℕ) → n < 10 → numeral n ≡ digit n ∷ []
unfolding numeral
numeral-small n h = within-small n n h

pub numeral-more : (n : ℕ) → 10 ≤ n → numeral n ≡ numeral (n / 10) ++ digit (n % 10) ∷ []
unfolding numeral
numeral-more n h =
    enough n (suc n) n (omega arith) (omega arith)
    ∙ within_more n n h
    ∙ ap (λ (l : List ℕ). l ++ digit (n % 10) ∷ []) (enough n (n / 10) (n / 10) (omega arith) (omega arith))

pub length-small : (n : ℕ) → n < 10 → length (numeral n) ≡ 1
length-small n h = ap length (numeral-small n h)

pub length_more : (n : ℕ) → 10 ≤ n → length (numeral n) ≡ length (numeral (n / 10)) + 1
length_more n h = ap length (numeral-more n h) ∙ length-append (numeral (n / 10)) (digit (n % 10) ∷ [])

-- a number below a power of ten has at most as many digits as the power has zeros
length-within : (k n : ℕ) → n < 10 ^ suc k → length (numeral n) ≤ suc k
length-within zero n h = omega (arith, length-small n (omega arith))
length-within (suc k) n h =
    elim (dec_lt n 10) [
      | yes small ↦ omega (arith, length-small n small)
      | no not-small ↦
          (let large : 10 ≤ n = omega arith in omega (arith, length_more n large, length-within k (n / 10) (omega arith)))
    ]

power-positive : (k : ℕ) → 1 ≤ 10 ^ k
power-positive zero = omega arith
power-positive (suc k) = omega (arith, power-positive k)

-- one from a power of ten on and below the next has one digit more than the power has zeros
pub length-power : (k n : ℕ) → 10 ^ k ≤ n → n < 10 * 10 ^ k → length (numeral n) ≡ k + 1
length-power zero n l h = length-small n (omega (arith, h))
length-power (suc k) n l h =
    let large : 10 ≤ n = omega (arith, l, power-positive k) in
    omega (arith, length_more n large, length-power k (n / 10) (omega (arith, l)) (omega (arith, h)))

pub numeral-short : (n : ℕ) → n < 2 ^ 64 → length (numeral n) ≤ 20
numeral-short n h = length-within 19 n (omega arith)

-- what digits after a number that is read already add up to
unfoldable pub value_of : ℕ → List ℕ → ℕ
value_of acc [] = acc
value_of acc (b ∷ bs) = value_of (10 * acc + (b - 48)) bs

abbrev pub AllDigits : List ℕ → Type 0
AllDigits [] = Unit {0}
AllDigits (b ∷ bs) = (is_digit b ≡ true) × AllDigits bs

pub all-digits-more : (ds : List ℕ) (b : ℕ) → AllDigits ds → is_digit b ≡ true → AllDigits (ds ++ b ∷ [])
all-digits-more [] b all h = (h, tt)
all-digits-more (d ∷ ds) b all h = (all.0, all-digits-more ds b all.1 h)

pub value-more : (acc : ℕ) (ds : List ℕ) (b : ℕ) → value_of acc (ds ++ b ∷ []) ≡ 10 * value_of acc ds + (b - 48)
unfolding value_of
value-more acc [] b = refl
value-more acc (d ∷ ds) b = value-more (10 * acc + (d - 48)) ds b

-- digits after the numeral of a number other than 0 make the numeral of what they add up to
pub numeral-value : (acc : ℕ) (ds : List ℕ) → 0 < acc → AllDigits ds → numeral (value_of acc ds) ≡ numeral acc ++ ds
unfolding value_of
numeral-value acc [] h all = sym (append-nil (numeral acc))
numeral-value acc (b ∷ bs) h all =
    let range = digit-range b all.0 in
    let next = 10 * acc + (b - 48) in
    let tenth : next / 10 ≡ acc = omega arith in
    let last : digit (next % 10) ≡ b = omega arith in
    numeral-value next bs (omega arith) all.1
    ∙ ap (λ (l : List ℕ). l ++ bs) (numeral-more next (omega arith) ∙ (λ i. numeral (tenth i) ++ last i ∷ []))
    ∙ append_snoc (numeral acc) b bs

-- a numeral's first digit and the others: the first is 0 only in the numeral of 0
pub record Spelled (n : ℕ) : Type 0 where
  pub first : ℕ
  pub others : List ℕ
  pub spelled : numeral n ≡ digit first ∷ others
  pub low : first < 10
  pub digits : AllDigits others
  pub value : value_of first others ≡ n
  pub alone : first ≡ 0 → (n ≡ 0) × (others ≡ [])

spelled-small : (n : ℕ) → n < 10 → Spelled n
unfolding value_of
spelled-small n small =
    record { first = n; others = []; spelled = numeral-small n small; low = small; digits = tt; value = refl; alone = λ e. (e, refl) }

spelled-more : (n : ℕ) → 10 ≤ n → Spelled (n / 10) → Spelled n
spelled-more n large s =
    record {
      first = s.first;
      others = s.others ++ digit (n % 10) ∷ [];
      spelled = numeral-more n large ∙ ap (λ (l : List ℕ). l ++ digit (n % 10) ∷ []) s.spelled;
      low = s.low;
      digits = all-digits-more s.others (digit (n % 10)) s.digits (digit-is (n % 10) (omega arith));
      value = value-more s.first s.others (digit (n % 10)) ∙ omega (arith, s.value);
      alone = λ e. absurd (omega (arith, (s.alone e).0));
    }

spelled-within : (k n : ℕ) → n ≤ k → Spelled n
spelled-within zero n h = spelled-small n (omega arith)
spelled-within (suc k) n h =
    elim (dec_lt n 10) [
      | yes small ↦ spelled-small n small
      | no not-small ↦ (let large : 10 ≤ n = omega arith in spelled-more n large (spelled-within k (n / 10) (omega arith)))
    ]

-- every number has such a numeral: its digits are no other bytes, and it has at least one
pub numeral-form : (n : ℕ) → Spelled n
numeral-form n = spelled-within n n (omega arith)

pub numeral-digits : (n : ℕ) → AllDigits (numeral n)
numeral-digits n =
    let f = numeral-form n in
    subst AllDigits (sym f.spelled) (digit-is f.first f.low, f.digits)

pub numeral-some : (n : ℕ) → 0 < length (numeral n)
numeral-some n = rw (numeral-form n).spelled (omega arith)

-- a numeral adds up to its number
pub value-numeral : (n : ℕ) → value_of 0 (numeral n) ≡ n
unfolding value_of
value-numeral n =
    let f = numeral-form n in
    let first : 10 * 0 + (digit f.first - 48) ≡ f.first = omega arith in
    ap (value_of 0) f.spelled ∙ ap (λ (d : ℕ). value_of d f.others) first ∙ f.value

-- digits that begin with 0 only where they are 0 alone are the numeral of what they add up to
one-digit : (b : ℕ) → is_digit b ≡ true → numeral (10 * 0 + (b - 48)) ≡ b ∷ []
one-digit b h =
    let range = digit-range b h in
    let this : digit (10 * 0 + (b - 48)) ≡ b = omega arith in
    numeral-small (10 * 0 + (b - 48)) (omega arith) ∙ ap (λ (d : ℕ). d ∷ []) this

pub canonical : (b : ℕ) (bs : List ℕ) → AllDigits (b ∷ bs) → (b ≡ 48 → bs ≡ []) → numeral (value_of 0 (b ∷ bs)) ≡ b ∷ bs
unfolding value_of
canonical b [] all h = one-digit b all.0
canonical b (d ∷ ds) all h =
    let range = digit-range b all.0 in
    let some : b ≡ 48 → ⊥ = λ e. (let z : ◌≡◌ {A = ℕ} 0 1 = cc (h e) in omega arith) in
    numeral-value (10 * 0 + (b - 48)) (d ∷ ds) (omega arith) all.1 ∙ ap (λ (l : List ℕ). l ++ d ∷ ds) (one-digit b all.0)

-- bytes that begin with digits are digits up to one place only
pub split-once : (xs ys : List ℕ) {rest rest' : List ℕ} → AllDigits xs → AllDigits ys → is_digit (byte_at rest 0) ≡ false → is_digit (byte_at rest' 0) ≡ false
    → xs ++ rest ≡ ys ++ rest' → (xs ≡ ys) × (rest ≡ rest')
split-once [] [] ax ay ex ey e = (refl, e)
split-once [] (y ∷ ys) ax ay ex ey e =
    let z : ◌≡◌ {A = ℕ} 0 1 = cc (sym (ap (λ (l : List ℕ). is_digit (byte_at l 0)) e) ∙ ex, ay.0) in absurd (omega arith)
split-once (x ∷ xs) [] ax ay ex ey e =
    let z : ◌≡◌ {A = ℕ} 0 1 = cc (ap (λ (l : List ℕ). is_digit (byte_at l 0)) e ∙ ey, ax.0) in absurd (omega arith)
split-once (x ∷ xs) (y ∷ ys) {rest} {rest'} ax ay ex ey e =
    let both : x ≡ y = cc in
    let then : xs ++ rest ≡ ys ++ rest' = cc in
    let later = split-once xs ys ax.1 ay.1 ex ey then in
    ((cc later.0), later.1)

pub numeral-once : (n m : ℕ) → numeral n ≡ numeral m → n ≡ m
numeral-once n m e = sym (value-numeral n) ∙ ap (value_of 0) e ∙ value-numeral m

pub begins-once : {bs rest rest' : List ℕ} {n m : ℕ} → Begins bs n rest → Begins bs m rest' → (n ≡ m) × (rest ≡ rest')
begins-once {n} {m} b b' =
    let parts = split-once (numeral n) (numeral m) (numeral-digits n) (numeral-digits m) b.ends b'.ends (sym b.text ∙ b'.text) in
    (numeral-once n m parts.0, parts.1)

-- below 2^32 a number is capped to itself
pub capped-below : (n : ℕ) → n < 2 ^ 32 → capped n ≡ n
capped-below n h = rw (lt-ltb n (2 ^ 32) h)

pub capped-above : (n : ℕ) → 2 ^ 32 ≤ n → capped n ≡ 2 ^ 32
capped-above n h = rw (le-ltb n (2 ^ 32) h)

pub capped_is : (n m : ℕ) → m < 2 ^ 32 → capped n ≡ m → n ≡ m
capped_is n m h e =
    elim (dec_lt n (2 ^ 32)) [ yes small ↦ sym (capped-below n small) ∙ e | no large ↦ absurd (omega (arith, capped-above n (omega arith))) ]

pub capped-within : (n : ℕ) → capped n ≤ 2 ^ 32
capped-within n = elim (dec_lt n (2 ^ 32)) [ yes small ↦ omega (arith, capped-below n small) | no large ↦ omega (arith, capped-above n (omega arith)) ]

pub capped-longer : (w d : ℕ) → capped (10 * capped w + d) ≡ capped (10 * w + d)
capped-longer w d =
    elim (dec_lt w (2 ^ 32)) [
      | yes small ↦ ap (λ (n : ℕ). capped (10 * n + d)) (capped-below w small)
      | no large ↦
          ap (λ (n : ℕ). capped (10 * n + d)) (capped-above w (omega arith))
          ∙ capped-above (10 * 2 ^ 32 + d) (omega arith)
          ∙ sym (capped-above (10 * w + d) (omega arith))
    ]

-- a place has one answer
pub number-once : (s : List ℕ) (at : ℕ) {r r' : Option Number} → NumberAt s at r → NumberAt s at r' → r ≡ r'
number-once s at (number n {next} h b) (number m {next = next'} h' b') =
    let once = begins-once b b' in
    let place : next ≡ next' = omega (arith, ap length once.1, length-drop next s, length-drop next' s) in
    λ i. Some (record { value = capped (once.0 i); next = place i })
number-once s at (number n {next} h b) (none bare) = absurd (bare n (drop next s) b)
number-once s at (none bare) (number n {next} h b) = absurd (bare n (drop next s) b)
number-once s at (none bare) (none bare') = refl
