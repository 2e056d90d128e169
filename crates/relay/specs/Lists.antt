-- RULES 9.4, the lists for a C program: the count, or the refusal above what it carries, in one number. Assumes nothing.
use Rattle.std.specs.Prelude.{◌≡◌, List, ℕ, length}
use Rattle.answer.specs.Packed.{packed_size}
use Rattle.loss_list.specs.InBytes.{compressing_bytes, after_compressing_bytes, expanding_bytes, after_expanding_bytes}

-- compressing the input into an output that holds `held` answers r and leaves `left` in it
pub record Compresses (bs held : List ℕ) (r : ℕ) (left : List ℕ) : Type 0 where
  pub answer : r ≡ packed_size (compressing_bytes bs (length held))
  pub leaves : left ≡ after_compressing_bytes (compressing_bytes bs (length held)) bs held

-- expanding the input into an output that holds `held` answers r and leaves `left` in it
pub record Expands (bs held : List ℕ) (r : ℕ) (left : List ℕ) : Type 0 where
  pub answer : r ≡ packed_size (expanding_bytes bs (length held))
  pub leaves : left ≡ after_expanding_bytes (expanding_bytes bs (length held)) bs held
