-- RULES 9.12, why a number is lost, for a C program: the place, a value that is none, or the refusal above what it carries, in one number. Assumes nothing.
use Rattle.std.specs.Prelude.{ℕ, Option, None, Some, Result, Ok, Err}
use Rattle.refusal.specs.declared.Refusal.{Refusal}
use Rattle.answer.specs.Packed.{packed}

-- no place of a list
abbrev pub not_lost : ℕ
not_lost = 0xFFFFFFFF

unfoldable pub packed_lost : Result (Option ℕ) Refusal → ℕ
packed_lost (Ok (Some p)) = p
packed_lost (Ok None) = not_lost
packed_lost (Err r) = packed r
