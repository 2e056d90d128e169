-- What the private functions of this crate promise. Assumes nothing.
use Rattle.std.specs.Prelude.{ℕ, ◌+◌, ◌*◌, ◌/◌, List, ◌++◌, length, take, drop}

-- a list with others in the place of some of its elements, from a place on
abbrev pub pasted : List ℕ → ℕ → List ℕ → List ℕ
pasted into at bs = take at into ++ bs ++ drop (at + length bs) into

-- the bytes that are copied at a time
abbrev pub block_size : ℕ
block_size = 64

abbrev pub whole_blocks : List ℕ → List ℕ
whole_blocks bs = take (length bs / block_size * block_size) bs
