-- `clear_into` meets its contract, by the laws of `Clearing`: the four bytes that are lent come back with the word. Assumes nothing.
use mathlib.Core.Path.{refl, ap, ◌∙◌}
use Prim.Native.Nat.{◌+◌, ◌-◌, ◌*◌, ◌<◌}
use native.Mathlib.Omega.{arith}
use borrow.Rule.Slice.PartMut.{put_mid}
use lib.ListN.{length}
use Rattle.wire.specs.Bytes.{bytes32, in_words}
use Rattle.wire.proofs.Words.{length-in_words}
use Rattle.wire.proofs.Lent.{lent-part}
use Rattle.byte_expansion.proofs.Clearing.{clearing-room, clearing-turn, clearing-end}
use Rattle.byte_expansion.proofs.cleared.clear_into.Goals as goal

pub slice_bounds-put_word-end : goal.slice_bounds-put_word-end
slice_bounds-put_word-end c = clearing-room _ _ _ _ c.words.invariant (omega (arith, c.words-test.true, length-in_words c.args.list.now)) c.requires

pub words-preserved : goal.words-preserved
words-preserved c =
    let within : c.words.i < length (in_words c.args.list.now) = omega (arith, c.words-test.true, length-in_words c.args.list.now) in
    let at = 4 * c.words.i in
    let stored = ap (put_mid at (at + 4 - at) c.words.into) c.put_word.ensures ∙ lent-part (bytes32 c.clear.result) c.words.into at (at + 4) refl (clearing-room _ _ _ _ c.words.invariant within c.requires) in
    rw (stored, c.clear.ensures, c.word_at.ensures) (clearing-turn _ _ _ _ c.words.invariant within c.requires)

pub returns : goal.returns
returns c = clearing-end _ _ _ _ c.words.invariant (omega (arith, c.words-test.false, length-in_words c.args.list.now))
