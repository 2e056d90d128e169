-- RULES 9.1 and 9.2, a C function's answer: 2^32 times the refusal number, 0 if accepted, plus the value or the carried number. Assumes nothing.
use Rattle.std.specs.Prelude.{◌≡◌, ℕ, ◌+◌, ◌*◌, ◌/◌, ◌%◌, ◌^◌, Result, Ok, Err}
use Rattle.refusal.specs.declared.Refusal.{Refusal}
use Rattle.refusal.specs.Refusal.{number_of, carried_by}

abbrev pub packed : Refusal → ℕ
packed r = number_of r * 2 ^ 32 + carried_by r

-- the same with what is carried cut to 32 bits
abbrev pub packed_low : Refusal → ℕ
packed_low r = number_of r * 2 ^ 32 + carried_by r % 2 ^ 32

-- the answer of a writer, or of any other function whose value is a number: the value by itself, or its refusal
unfoldable pub packed_size : Result ℕ Refusal → ℕ
packed_size (Ok n) = n
packed_size (Err r) = packed r

-- the same with what is carried cut to 32 bits
unfoldable pub packed_size_low : Result ℕ Refusal → ℕ
packed_size_low (Ok n) = n
packed_size_low (Err r) = packed_low r

-- the two halves that C takes an answer apart into: the refusal number, 0 if accepted, and the value or the carried number
pub record Halves (answer refusal value : ℕ) : Type 0 where
  pub upper : answer / 2 ^ 32 ≡ refusal
  pub lower : answer % 2 ^ 32 ≡ value
