-- `wire::word_at` meets its contract: the four bytes, turned, are the word that `in_words` has there; past the last whole word it has none.
use Rattle.std.proofs.Common.{sym, ap, ◌∙◌, ℕ, ◌+◌, ◌*◌, ◌<◌, arith}
use lib.ListN.{get_or, get_or-eq_default}
use Rattle.std.specs.Int.{w32, swap_bytes}
use Rattle.wire.specs.Bytes.{in_words}
use Rattle.wire.proofs.Words.{length-in_words, word-here}
use Rattle.wire.proofs.Turning.{turned-number}
use Rattle.wire.proofs.word_at.Goals as goal

pub returns-then-i-bytes : goal.returns-then-i-bytes
returns-then-i-bytes c =
    let bs = c.args.bytes.now in
    let i = c.args.i in
    let byte : (k : ℕ) → get_or bs k 0 < 256 = λ k. (c.type_inv.bytes k).fits in
    c.swap_bytes.ensures
    ∙ ap (swap_bytes w32) c.from_le_bytes.ensures
    ∙ turned-number _ _ _ _ (byte (4 * i)) (byte (4 * i + 1)) (byte (4 * i + 2)) (byte (4 * i + 3))
    ∙ sym (word-here bs i (omega arith))

pub returns : goal.returns
returns c = sym (get_or-eq_default (in_words c.args.bytes.now) 0 (omega (arith, length-in_words c.args.bytes.now)))
