-- `put_line_feed` meets its contract. Assumes nothing.
use mathlib.Core.Path.{◌≡◌}
use Prim.Native.Nat.{◌<◌}
use native.Mathlib.Omega.{arith}
use lib.ListN.{length}
use Rattle.std.proofs.lemmas.Bool.Decides.{nat_tests}
use Rattle.line_writing.proofs.Writing.{line-feed, no-line-feed}
use Rattle.line_writing.proofs.put_line_feed.Goals as goal

pub returns-then-is_empty : goal.returns-then-is_empty
returns-then-is_empty c = let none : length c.args.into.now ≡ 0 = grind (arith, nat_tests) in no-line-feed c.args.into.now none

pub returns : goal.returns
returns c = let some : 0 < length c.args.into.now = grind (arith, nat_tests) in line-feed c.args.into.now some
