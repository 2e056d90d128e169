-- `length_with` meets its contract: the word, its line feed and the fields so far. Assumes nothing.
use Prim.Native.Nat.{◌+◌, ◌*◌, ◌≤◌}
use mathlib.Core.Path.{◌≡◌}
use lib.ListN.{length, take}
use Rattle.line_writing.proofs.Writing.{fields}
use Rattle.line_writing.proofs.length_with.Given as goal

abbrev pub invariant-loop-number : goal.invariant-loop-number
invariant-loop-number l =
    (l.bytes ≡ length l.word + length (fields (take l.number-index l.numbers)) + 1) × (l.bytes ≤ 5 + 21 * l.number-index)
