-- A number that is written from its last digit on: before place i + 1 the buffer is as it was, from there stand the digits
-- that are written. Assumes nothing.
use Prim.Native.Nat.{ℕ, ◌+◌, ◌-◌, ◌/◌, ◌%◌, ◌≤◌, ◌<◌}
use mathlib.Core.Path.{◌≡◌, sym, ap, ◌∙◌}
use mathlib.Core.List.{List, [], ◌∷◌, ◌++◌, append-nil}
use native.Mathlib.Omega.{arith}
use native.Mathlib.Decide.{dec_lt}
use native.Mathlib.Numerals.{add-one}
use lib.ListN.{length, take, drop, set, get_or, length-append, length-drop, take-append-drop}
use lib.Seq.{length-take-le, take-suc, append_snoc, set_at}
use Rattle.wire.specs.Lent.{placed}
use Rattle.wire.proofs.Lent.{placed-fits}
use Rattle.decimal.specs.Decimal.{digit, numeral}
use Rattle.decimal.proofs.Decimals.{numeral-small, numeral-more, numeral-some, length-small, length_more}

pub record Writing (n : ℕ) (held₀ held : List ℕ) (rest i : ℕ) : Type 0 where
  pub written : List ℕ
  pub spelled : numeral n ≡ numeral rest ++ written
  pub long : length (numeral rest) ≡ i + 1
  pub stands : held ≡ take (i + 1) held₀ ++ (written ++ drop (length (numeral n)) held₀)

pub writing_start : (n : ℕ) (held : List ℕ) (i : ℕ) → i ≡ length (numeral n) - 1 → Writing n held held n i
writing_start n held i e =
    let all : length (numeral n) ≡ i + 1 = omega (arith, numeral-some n) in
    record {
      written = [];
      spelled = sym (append-nil (numeral n));
      long = all;
      stands = sym (take-append-drop (length (numeral n)) held) ∙ ap (λ (k : ℕ). take k held ++ drop (length (numeral n)) held) all;
    }

module _ {n : ℕ} {held₀ held : List ℕ} {rest i : ℕ} (w : Writing n held₀ held rest i) (room : length (numeral n) ≤ length held₀) where
  lengths : length (numeral n) ≡ i + 1 + length w.written
  lengths = ap length w.spelled ∙ length-append (numeral rest) w.written ∙ ap (λ (k : ℕ). k + length w.written) w.long

  pub writing-length : length held ≡ length held₀
  writing-length =
      let end = drop (length (numeral n)) held₀ in
      ap length w.stands
      ∙ length-append (take (i + 1) held₀) (w.written ++ end)
      ∙ omega (arith, lengths, length-take-le (i + 1) held₀ (omega (arith, lengths)), length-append w.written end, length-drop (length (numeral n)) held₀)

  pub writing-room : i < length held
  writing-room = omega (arith, writing-length, lengths)

  -- a digit at place i
  put : (v : ℕ) → set held i v ≡ take i held₀ ++ (v ∷ w.written ++ drop (length (numeral n)) held₀)
  put v =
      let within : i < length held₀ = omega (arith, lengths) in
      let after = w.written ++ drop (length (numeral n)) held₀ in
      ap (λ (l : List ℕ). set l i v) (w.stands ∙ ap (λ (k : ℕ). take k held₀ ++ after) (add-one i) ∙ ap (λ (l : List ℕ). l ++ after) (take-suc held₀ i 0 within) ∙ append_snoc (take i held₀) (get_or held₀ i 0) after)
      ∙ set_at (take i held₀) (get_or held₀ i 0) after v i (length-take-le i held₀ (omega arith))

  -- as long as a digit more is to be written what is left has more than one, and then it has one
  large : 0 < i → 10 ≤ rest
  large h = elim (dec_lt rest 10) [ yes small ↦ absurd (omega (arith, w.long, length-small rest small)) | no not-small ↦ omega arith ]

  pub writing-last : i ≡ 0 → rest < 10
  writing-last e =
      elim (dec_lt rest 10) [
        | yes small ↦ small
        | no not-small ↦ absurd (omega (arith, w.long, length_more rest (omega arith), numeral-some (rest / 10)))
      ]

  pub writing-next : 0 < i → Writing n held₀ (set held i (digit (rest % 10))) (rest / 10) (i - 1)
  writing-next h =
      let back : i ≡ i - 1 + 1 = omega arith in
      record {
        written = digit (rest % 10) ∷ w.written;
        spelled = w.spelled ∙ ap (λ (l : List ℕ). l ++ w.written) (numeral-more rest (large h)) ∙ append_snoc (numeral (rest / 10)) (digit (rest % 10)) w.written;
        long = omega (arith, w.long, length_more rest (large h));
        stands = put (digit (rest % 10)) ∙ ap (λ (k : ℕ). take k held₀ ++ (digit (rest % 10) ∷ w.written ++ drop (length (numeral n)) held₀)) back;
      }

  -- the first digit is written last
  pub writing-end : i ≡ 0 → set held 0 (digit rest) ≡ placed (numeral n) held₀
  writing-end first =
      let whole : numeral n ≡ digit rest ∷ w.written = w.spelled ∙ ap (λ (l : List ℕ). l ++ w.written) (numeral-small rest (writing-last first)) in
      ap (λ (k : ℕ). set held k (digit rest)) (sym first)
      ∙ put (digit rest)
      ∙ ap (λ (k : ℕ). take k held₀ ++ (digit rest ∷ w.written ++ drop (length (numeral n)) held₀)) first
      ∙ ap (λ (l : List ℕ). l ++ drop (length (numeral n)) held₀) (sym whole)
      ∙ sym (placed-fits (numeral n) held₀ room)
