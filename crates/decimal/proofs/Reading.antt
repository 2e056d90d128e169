-- A number that is read digit by digit: the digits from `at` to i, and what they add up to. Where no digit follows they are
-- the only number that can stand there, and they are one unless they begin with 0 and go on. Assumes nothing.
use Prim.Native.Nat.{ℕ, zero, suc, ◌+◌, ◌-◌, ◌*◌, ◌^◌, ◌≤◌, ◌<◌}
use mathlib.Core.Path.{◌≡◌, refl, sym, ap, ◌∙◌, subst}
use mathlib.Core.Bool.{Bool, true, false, cond, ◌&&◌}
use mathlib.Core.List.{List, [], ◌∷◌, ◌++◌}
use native.Mathlib.Omega.{arith}
use native.Mathlib.Numerals.{add-one}
use lib.Dec.{leb, ltb, leb-suc-suc}
use lib.ListN.{length, take, drop, get_or, length-drop, get_or-eq_default, drop_of_length-le}
use lib.Seq.{drop-drop, get_or-drop, take-suc}
use Rattle.wire.specs.Bytes.{byte_at}
use Rattle.std.specs.Char.{is_ascii_digit}
use Rattle.std.specs.List.{take_while, slice_range, slice_get}
use Rattle.std.specs.Prelude.{Some, None}
use Rattle.std.proofs.lemmas.List.{take_all, length-take}
use Rattle.std.proofs.lemmas.List.Sums.{take_while-cons}
use Rattle.std.proofs.lemmas.List.Folds.{length-prefix_len}
use Rattle.decimal.specs.Decimal.{digit, is_digit, numeral, capped, Begins, NumberAt, number, none}
use Rattle.decimal.proofs.Decimals.{digit-is, AllDigits, value_of, value-more, numeral-form, numeral-digits, canonical, split-once, capped-longer, capped-within}

-- the bytes from a place on begin with the byte at it
front : (s : List ℕ) (i : ℕ) → byte_at (drop i s) 0 ≡ byte_at s i
front s i = let here : i + 0 ≡ i = omega arith in get_or-drop i s 0 0 ∙ ap (byte_at s) here

-- a number's first byte
begins-front : (s : List ℕ) (at n : ℕ) (rest : List ℕ) → Begins (drop at s) n rest → byte_at s at ≡ digit (numeral-form n).first
begins-front s at n rest b = sym (front s at) ∙ ap (λ (l : List ℕ). byte_at l 0) (b.text ∙ ap (λ (l : List ℕ). l ++ rest) (numeral-form n).spelled)

pub no_digit : (s : List ℕ) (at : ℕ) → is_digit (byte_at s at) ≡ false → NumberAt s at None
no_digit s at h =
    none λ n rest b.
    let z : ◌≡◌ {A = ℕ} 0 1 = cc (sym (ap is_digit (begins-front s at n rest b)) ∙ h, digit-is (numeral-form n).first (numeral-form n).low) in omega arith

-- std has the same test
ascii : (b : ℕ) → is_ascii_digit b ≡ is_digit b
ascii b = go (leb 48 b)
  where
    go : (t : Bool) → t && leb b 57 ≡ cond t (ltb b 58) false
    go true = sym (leb-suc-suc b 57)
    go false = refl

-- the digits that some bytes begin with, and that no digit follows them
pub record Leading (bs ds : List ℕ) : Type 0 where
  pub text : bs ≡ ds ++ drop (length ds) bs
  pub digits : AllDigits ds
  pub ends : is_digit (byte_at (drop (length ds) bs) 0) ≡ false

leading : (bs : List ℕ) → Leading bs (take_while is_ascii_digit bs)
leading [] = record { text = refl; digits = tt; ends = refl }
leading (b ∷ bs) = go (leading bs) (is_ascii_digit b) refl
  where
    go : Leading bs (take_while is_ascii_digit bs) → (t : Bool) → is_ascii_digit b ≡ t → Leading (b ∷ bs) (take_while is_ascii_digit (b ∷ bs))
    go l true e =
        rw take_while-cons (rw e (record { text = ap (λ (l : List ℕ). b ∷ l) l.text; digits = (sym (ascii b) ∙ e, l.digits); ends = l.ends }))
    go l false e = rw take_while-cons (rw e (record { text = refl; digits = tt; ends = sym (ascii b) ∙ e }))

-- .. those at a place
pub leading-at : (s : List ℕ) (at : ℕ) {rest : List ℕ} {count : ℕ} → at ≤ length s → rest ≡ slice_range s at (length s) → count ≡ length (take_while is_ascii_digit rest)
    → (at + length (take count rest) ≤ length s) × Leading (drop at s) (take count rest)
leading-at s at {rest} {count} within is long =
    let all : rest ≡ drop at s = is ∙ take_all (length s - at) (drop at s) (omega (arith, length-drop at s)) in
    let taken : take count rest ≡ take_while is_ascii_digit rest = ap (λ (k : ℕ). take k rest) (long ∙ length-prefix_len is_ascii_digit rest) in
    (omega (arith, length-take count rest, ap length all, length-drop at s), subst (λ (bs : List ℕ). Leading bs (take count rest)) all (subst (Leading rest) (sym taken) (leading rest)))

-- a digit at a place among digits
digit-at : (ds : List ℕ) (i : ℕ) → AllDigits ds → i < length ds → is_digit (get_or ds i 0) ≡ true
digit-at [] i all h = absurd (omega arith)
digit-at (d ∷ ds) zero all h = all.0
digit-at (d ∷ ds) (suc i) all h = digit-at ds i all.1 (omega arith)

-- the digits before place i add up to `value`
module _ (ds : List ℕ) (i : ℕ) {value : ℕ} (all : AllDigits ds) (h : i < length ds) (sum : value ≡ capped (value_of 0 (take i ds))) where
  pub reading-fits : (value ≤ 2 ^ 32) × (is_digit (get_or ds i 0) ≡ true)
  reading-fits = (omega (arith, sum, capped-within (value_of 0 (take i ds))), digit-at ds i all h)

  pub reading-next : {value' : ℕ} → value' ≡ capped (10 * value + (get_or ds i 0 - 48)) → value' ≡ capped (value_of 0 (take (i + 1) ds))
  reading-next e =
      let d = get_or ds i 0 in
      e
      ∙ ap (λ (v : ℕ). capped (10 * v + (d - 48))) sum
      ∙ capped-longer (value_of 0 (take i ds)) (d - 48)
      ∙ ap capped (sym (value-more 0 (take i ds) d))
      ∙ ap (λ (l : List ℕ). capped (value_of 0 l)) (sym (rw add-one (take-suc ds i 0 h)))

-- past the bytes nothing stands
pub reading-past : (s : List ℕ) (at : ℕ) → length s < at → NumberAt s at None
reading-past s at h = no_digit s at (ap is_digit (get_or-eq_default s 0 {n = at} (omega arith)))

pub reading-empty : (s : List ℕ) (at : ℕ) {ds : List ℕ} → Leading (drop at s) ds → None ≡ slice_get ds 0 → NumberAt s at None
reading-empty s at {ds = []} l e = no_digit s at (ap is_digit (sym (front s at)) ∙ l.ends)
reading-empty s at {ds = d ∷ ds} l e = absurd (let z : ◌≡◌ {A = ℕ} 0 1 = cc in omega arith)

-- a number's first digit, where 0 does not go on
whole : (ds : List ℕ) → AllDigits ds → {first : ℕ} → Some first ≡ slice_get ds 0 → (first ≡ 48 → length ds ≤ 1) → numeral (value_of 0 ds) ≡ ds
whole [] all e h = absurd (let z : ◌≡◌ {A = ℕ} 0 1 = cc in omega arith)
whole (b ∷ bs) all {first} e h =
    let same : first ≡ b = cc in
    canonical b bs all (λ leads. drop_of_length-le bs {i = 0} (omega (arith, h (same ∙ leads))))

first-digit : (ds : List ℕ) {first : ℕ} → Some first ≡ slice_get ds 0 → (d : ℕ) (ds' : List ℕ) → ds ≡ digit d ∷ ds' → first ≡ digit d
first-digit [] e d ds' h = absurd (let z : ◌≡◌ {A = ℕ} 0 1 = cc in omega arith)
first-digit (b ∷ bs) e d ds' h = cc

module _ (s : List ℕ) (at : ℕ) {ds : List ℕ} (l : Leading (drop at s) ds) {first : ℕ} (e : Some first ≡ slice_get ds 0) where
  pub reading-zero : first ≡ 48 → 1 < length ds → NumberAt s at None
  reading-zero leads more =
      none λ n rest b.
      let f = numeral-form n in
      let same : ds ≡ digit f.first ∷ f.others = (split-once ds (numeral n) l.digits (numeral-digits n) l.ends b.ends (sym l.text ∙ b.text)).0 ∙ f.spelled in
      let zero : f.first ≡ 0 = omega (arith, first-digit ds e f.first f.others same) in
      omega (arith, ap length same, ap length (f.alone zero).1)

  pub reading-number : at + length ds ≤ length s → (first ≡ 48 → length ds ≤ 1) → {value : ℕ} → value ≡ capped (value_of 0 ds) → NumberAt s at (Some (record { value = value; next = at + length ds }))
  reading-number within h sum =
      let after : drop (length ds) (drop at s) ≡ drop (at + length ds) s = drop-drop (length ds) at s in
      let begins : Begins (drop at s) (value_of 0 ds) (drop (at + length ds) s) =
      record { text = l.text ∙ (λ i. sym (whole ds l.digits e h) i ++ after i); ends = ap (λ (l : List ℕ). is_digit (byte_at l 0)) (sym after) ∙ l.ends } in
      subst (λ (v : ℕ). NumberAt s at (Some (record { value = v; next = at + length ds }))) (sym sum) (number (value_of 0 ds) within begins)
