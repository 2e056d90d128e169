-- `length_with` meets its contract: the word, its line feed and the fields so far. Assumes nothing.
use mathlib.Core.Path.{ap}
use native.Mathlib.Omega.{arith}
use lib.ListN.{length}
use Rattle.line_writing.proofs.Writing.{fields-none, fields-all, fields-length, line-length}
use Rattle.line_writing.proofs.length_with.Goals as goal

pub loop-number-init : goal.loop-number-init
loop-number-init c = (omega (arith, ap length (fields-none c.args.numbers.now)), omega arith)

pub loop-number-preserved : goal.loop-number-preserved
loop-number-preserved c =
    let more = fields-length c.args.numbers.now c.loop-number.number-index c.loop-number-test.true in
    (omega (arith, more), omega arith)

pub returns : goal.returns
returns c =
    let all = ap length (fields-all c.args.numbers.now c.loop-number.number-index c.loop-number-test.false) in
    (omega (arith, all, line-length c.args.word.now c.args.numbers.now), omega arith)
