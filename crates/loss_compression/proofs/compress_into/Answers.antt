-- `compress_into` meets its contract: each turn writes the words of one run, by the laws of `Compressing`. Assumes nothing.
use Prim.Native.Nat.{◌-◌}
use native.Mathlib.Omega.{arith}
use Rattle.wire.proofs.Storage.{room_below}
use Rattle.loss_list.proofs.Order.{all_in}
use Rattle.loss_list.proofs.Ranges.{flag-set}
use Rattle.loss_list.proofs.Compressing.{compressing-start, lone_room, compressing-lone, first_room, run_room, compressing-run, compressing-end}
use Rattle.loss_compression.proofs.compress_into.Goals as goal

pub runs-init : goal.runs-init
runs-init g c = compressing-start g.C.Cell.storage _ _

pub store_at-requires : goal.store_at-requires
store_at-requires g c = lone_room g.C.Cell.storage _ _ _ _ _ _ c.runs.invariant c.run_end-end.ensures c.requires.room c.if-end-i.true

pub overflow_add-out : goal.overflow_add-out
overflow_add-out g c =
    let room = lone_room g.C.Cell.storage _ _ _ _ _ _ c.runs.invariant c.run_end-end.ensures c.requires.room c.if-end-i.true in
    omega (arith, room_below _ _ _ g.met.C.Cell.takes room, c)

pub store_at-requires-else-end-i : goal.store_at-requires-else-end-i
store_at-requires-else-end-i g c = first_room g.C.Cell.storage _ _ _ _ _ _ c.runs.invariant c.run_end-end.ensures c.requires.room c.if-end-i.false

pub overflow_add-out-else-end-i : goal.overflow_add-out-else-end-i
overflow_add-out-else-end-i g c =
    let room = run_room g.C.Cell.storage _ _ _ _ _ _ c.runs.invariant c.run_end-end.ensures c.requires.room c.if-end-i.false in
    omega (arith, room_below _ _ _ g.met.C.Cell.takes room, c)

pub store_at-requires-else-end-i-2 : goal.store_at-requires-else-end-i-2
store_at-requires-else-end-i-2 g c =
    let room = run_room g.C.Cell.storage _ _ _ _ _ _ c.runs.invariant c.run_end-end.ensures c.requires.room c.if-end-i.false in
    omega (arith, room, c.store_at-else-end-i.auto.into)

pub overflow_add-out-else-end-i-2 : goal.overflow_add-out-else-end-i-2
overflow_add-out-else-end-i-2 g c =
    let room = run_room g.C.Cell.storage _ _ _ _ _ _ c.runs.invariant c.run_end-end.ensures c.requires.room c.if-end-i.false in
    omega (arith, room_below _ _ _ g.met.C.Cell.takes room, c)

pub runs-preserved-then-end-i : goal.runs-preserved-then-end-i
runs-preserved-then-end-i g c =
    rw (c.store_at.ensures, c.word-first.ensures) (compressing-lone g.C.Cell.storage _ _ _ _ _ _ c.runs.invariant c.run_end-end.ensures c.requires.room c.if-end-i.true)

pub runs-preserved : goal.runs-preserved
runs-preserved g c =
    let number = all_in _ c.requires.in_order c.runs.i (rw c.count.ensures at c.runs-test.true) in
    rw (c.store_at-else-end-i-2.ensures, c.store_at-else-end-i.ensures, c.word.ensures, c.word-first.ensures, c.range_flag.ensures, flag-set _ (c.run_end-end.result - 1 - c.runs.i) number)
    (compressing-run g.C.Cell.storage _ _ _ _ _ _ c.runs.invariant c.run_end-end.ensures c.requires.room c.if-end-i.false)

pub returns : goal.returns
returns g c = compressing-end g.C.Cell.storage _ _ _ _ _ c.runs.invariant (rw c.count.ensures at c.runs-test.false)
