-- `item_of` meets its contract: each return is a case of `look_of`. Assumes nothing.
use borrow.Author.Tests.{le-leb, lt-leb}
use Prim.Native.Nat.{◌^◌}
use Rattle.why_lost.specs.Steps.{look_of}
use Rattle.why_lost.proofs.look.item_of.Goals as goal

pub returns-then-word-lt-FLAG : goal.returns-then-word-lt-FLAG
unfolding look_of
returns-then-word-lt-FLAG c = simp (lt-leb (2 ^ 31) _ c.if-word-lt-FLAG.true)

pub returns : goal.returns
unfolding look_of
returns c = simp (le-leb (2 ^ 31) _ c.if-word-lt-FLAG.false, c.distance-on.ensures, c.distance-steps.ensures)
