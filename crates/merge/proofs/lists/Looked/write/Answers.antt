-- `write` meets its contract: each turn writes the words of one run, by the laws of `Writing`. The measure is what is left of the ring. Assumes nothing.
use Prim.Native.Nat.{◌-◌}
use native.Mathlib.Omega.{arith}
use Rattle.ring.specs.Ring.{after}
use Rattle.loss_list.proofs.Ranges.{flag-set}
use Rattle.merge.proofs.Writing.{writing_start, lone-fits, writing-lone, first-fits, second-fits, writing-run, writing-fills, writing-counts}
use Rattle.merge.proofs.lists.Looked.write.Goals as goal

pub runs-init : goal.runs-init
runs-init g c = writing_start _ _ _ _ _ _ c.requires.ready c.begin-walk.ensures _

pub put-requires : goal.put-requires
put-requires g c = lone-fits _ _ _ _ _ _ c.runs.invariant c.run_from-run.ensures c.requires.room c.if-steps-eq0.true

pub put-requires-else-steps-eq0 : goal.put-requires-else-steps-eq0
put-requires-else-steps-eq0 g c = first-fits _ _ _ _ _ _ c.runs.invariant c.run_from-run.ensures c.requires.room c.if-steps-eq0.false

pub put-requires-else-steps-eq0-2 : goal.put-requires-else-steps-eq0-2
put-requires-else-steps-eq0-2 g c =
    let run = c.run_from-run.result in
    let flags = flag-set (after 31 c.args.self.now.lists.oldest run.from) (run.to - run.from) (omega arith) in
    second-fits _ _ _ _ _ _ c.runs.invariant c.run_from-run.ensures c.requires.room c.if-steps-eq0.false
    (rw (c.add-number.ensures, c.range_flag.ensures, flags) at c.put-else-steps-eq0.ensures)

pub runs-preserved-then-steps-eq0 : goal.runs-preserved-then-steps-eq0
runs-preserved-then-steps-eq0 g c =
    writing-lone _ _ _ _ _ _ c.runs.invariant c.run_from-run.ensures c.requires.room c.if-steps-eq0.true (rw c.add-number.ensures at c.put.ensures)

pub runs-preserved : goal.runs-preserved
runs-preserved g c =
    let run = c.run_from-run.result in
    let flags = flag-set (after 31 c.args.self.now.lists.oldest run.from) (run.to - run.from) (omega arith) in
    writing-run _ _ _ _ _ _ c.runs.invariant c.run_from-run.ensures c.requires.room c.if-steps-eq0.false
    (rw (c.add-number.ensures, c.range_flag.ensures, flags) at c.put-else-steps-eq0.ensures)
    (rw c.add.ensures at c.put-else-steps-eq0-2.ensures)

pub returns : goal.returns
returns g c =
    let counts = writing-counts _ _ _ _ _ _ c.runs.invariant c.runs-test.false in
    record { numbers = counts.0; words = counts.1; fills = writing-fills _ _ _ _ _ _ c.runs.invariant c.runs-test.false }
