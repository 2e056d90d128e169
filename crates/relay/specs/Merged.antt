-- RULES 9.15, two lists merged, for a C program: the words written, or the refusal above what it carries, in one number. Assumes nothing.
use Rattle.std.specs.Prelude.{◌≡◌, List, ℕ, length}
use Rattle.wire.specs.Bytes.{in_words}
use Rattle.merging.specs.Merging.{union, merging_bytes, after_merging_bytes}
use Rattle.answer.specs.Packed.{packed_size}

-- merging the two lists into an output that holds `held` answers r and leaves `left` in it
pub record Merges (o : ℕ) (bs cs held : List ℕ) (r : ℕ) (left : List ℕ) : Type 0 where
  pub answer : r ≡ packed_size (merging_bytes o bs cs (length held))
  pub leaves : left ≡ after_merging_bytes (merging_bytes o bs cs (length held)) (union o (in_words bs) (in_words cs)) held
