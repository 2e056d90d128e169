-- What stands at a place of a sheet. Assumes nothing.
use Rattle.std.specs.Prelude.{ℕ, ◌≤◌, ◌≡◌, false, List, [], ◌∷◌, ◌++◌, length, drop, Option, Some, None, MatchOption, IsSomeAnd}
use Rattle.wire.specs.Bytes.{byte_at}
use Rattle.decimal.specs.Decimal.{numeral, is_digit, capped}
use Rattle.sheet_line.specs.Text.{tab, ended, text}
use Rattle.sheet_line.specs.declared.Line.{Line}
use Rattle.sheet_line.specs.declared.Line.TheVariants.{Gaps, One, Run, End}
use Rattle.decimal.specs.declared.Number.{Number}
use Rattle.line_reading.specs.declared.Numbers.{Numbers}
use Rattle.line_reading.specs.declared.Found.{Found}

-- a line as it is answered: its numbers of more than 32 bits count as 2^32
unfoldable pub told : Line → Line
told (Gaps edition limit) = Gaps (capped edition) (capped limit)
told (One number) = One (capped number)
told (Run first last) = Run (capped first) (capped last)
told (End total) = End (capped total)

-- a line begins at a place of s and ends where the next begins, or none begins there
pub data LineAt (s : List ℕ) (at : ℕ) : Option Found → Type 0 where
  line : (l : Line) {next : ℕ} → next ≤ length s → drop at s ≡ text l ++ drop next s → LineAt s at (Some (record { line = told l; next = next }))
  nothing : ((l : Line) (rest : List ℕ) → drop at s ≡ text l ++ rest → ⊥) → LineAt s at None

-- what the private functions of this crate promise: a tab and a number stand at a place, or not ..
pub data FieldAt (s : List ℕ) (at : ℕ) : Option Number → Type 0 where
  field : (n : ℕ) {next : ℕ} → next ≤ length s → drop at s ≡ tab ∷ (numeral n ++ drop next s) → is_digit (byte_at (drop next s) 0) ≡ false → FieldAt s at (Some (record { value = capped n; next = next }))
  none : ((n : ℕ) (ns rest : List ℕ) → drop at s ≡ ended (n ∷ ns) ++ rest → ⊥) → FieldAt s at None

-- .. one number or two stand there, with what ends the line, or neither ..
pub data NumbersAt (s : List ℕ) (at : ℕ) : Option Numbers → Type 0 where
  single : (n : ℕ) {next : ℕ} → next ≤ length s → drop at s ≡ ended (n ∷ []) ++ drop next s → NumbersAt s at (Some (record { first = capped n; second = None; next = next }))
  pair : (n m : ℕ) {next : ℕ} → next ≤ length s → drop at s ≡ ended (n ∷ m ∷ []) ++ drop next s → NumbersAt s at (Some (record { first = capped n; second = Some (capped m); next = next }))
  neither : ((n : ℕ) (rest : List ℕ) → drop at s ≡ ended (n ∷ []) ++ rest → ⊥) → ((n m : ℕ) (rest : List ℕ) → drop at s ≡ ended (n ∷ m ∷ []) ++ rest → ⊥) → NumbersAt s at None

-- .. and a line is made of them where the word takes one, or two
pub record MakesOfOne (makes : ℕ → Line → Type 0) (ns : Numbers) (r : Option Found) : Type 0 where
  pub made : MatchOption ns.second (IsSomeAnd r (λ f. makes ns.first f.line × (f.next ≡ ns.next))) (λ _. r ≡ None)

pub record MakesOfTwo (makes : ℕ → ℕ → Line → Type 0) (ns : Numbers) (r : Option Found) : Type 0 where
  pub made : MatchOption ns.second (r ≡ None) (λ m. IsSomeAnd r (λ f. makes ns.first m f.line × (f.next ≡ ns.next)))
