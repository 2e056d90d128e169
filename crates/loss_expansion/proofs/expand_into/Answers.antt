-- `expand_into` meets its contract: a turn of the outer loop writes one item, a turn of the inner one number, by the laws of
-- `Expanding`. Assumes nothing.
use mathlib.Core.Path.{refl}
use native.Mathlib.Omega.{arith}
use Rattle.wire.proofs.Storage.{room_below}
use Rattle.loss_list.proofs.Expands.{judged-expanded}
use Rattle.loss_steps.proofs.Heads.{run-within, sound-range}
use Rattle.loss_steps.proofs.Expanding.{expanding-start, expanding-next, expanding-end, plain-room, plain-next, ranging-start, ranging-turn, ranging-last, ranging-room}
use Rattle.loss_expansion.proofs.expand_into.Goals as goal

pub items-init : goal.items-init
items-init g c = expanding-start g.C.Cell.storage _ _ (judged-expanded _ c.args.judged.now.judged).0

pub store_at-requires : goal.store_at-requires
store_at-requires g c =
    plain-room g.C.Cell.storage _ _ _ _ _ c.items.invariant (rw c.count.ensures at c.items-test.true) (rw c.word-word.ensures at c.if-word-lt-FLAG.true) c.requires.room

pub overflow_add-out : goal.overflow_add-out
overflow_add-out g c =
    let room = plain-room g.C.Cell.storage _ _ _ _ _ c.items.invariant (rw c.count.ensures at c.items-test.true) (rw c.word-word.ensures at c.if-word-lt-FLAG.true) c.requires.room in
    omega (arith, room_below _ _ _ g.met.C.Cell.takes room, c)

pub items-preserved-then-word-lt-FLAG : goal.items-preserved-then-word-lt-FLAG
items-preserved-then-word-lt-FLAG g c =
    let w = c.word-word in
    rw (c.store_at.ensures, w.ensures)
    (plain-next g.C.Cell.storage _ _ _ _ _ c.items.invariant (rw c.count.ensures at c.items-test.true) (rw w.ensures at c.if-word-lt-FLAG.true) c.requires.room)

pub range-init : goal.range-init
range-init g c =
    let w = c.word-word in
    let head = sound-range _ _ (rw c.count.ensures at c.items-test.true) (rw w.ensures at c.if-word-lt-FLAG.false) c.items.invariant.sound (rw w.ensures at w.type_inv) in
    rw (c.distance-steps.ensures, c.word.ensures, w.ensures) (ranging-start g.C.Cell.storage _ _ _ _ _ c.items.invariant head refl c.requires.room, head)

pub store_at-requires-in-range : goal.store_at-requires-in-range
store_at-requires-in-range g c = ranging-room g.C.Cell.storage c.range.invariant.0

pub overflow_add-out-in-range : goal.overflow_add-out-in-range
overflow_add-out-in-range g c = omega (arith, room_below _ _ _ g.met.C.Cell.takes (ranging-room g.C.Cell.storage c.range.invariant.0), c)

pub overflow_add-k : goal.overflow_add-k
overflow_add-k g c = omega (arith, c.range.invariant.0.reached, c.if-k-steps.false, run-within _ _ c.range.invariant.1 refl)

pub range-smaller : goal.range-smaller
range-smaller g c = omega (arith, c.range.invariant.0.reached, c.if-k-steps.false)

pub range-preserved : goal.range-preserved
range-preserved g c =
    rw (c.store_at-in-range.ensures, c.add.ensures) (ranging-turn g.C.Cell.storage c.range.invariant.0 (omega (arith, c.range.invariant.0.reached, c.if-k-steps.false)), c.range.invariant.1)

pub overflow_add-i-else-word-lt-FLAG-2 : goal.overflow_add-i-else-word-lt-FLAG-2
overflow_add-i-else-word-lt-FLAG-2 g c = omega (arith, run-within _ _ c.range.invariant.1 refl, c)

pub items-preserved : goal.items-preserved
items-preserved g c =
    rw (c.store_at-in-range.ensures, c.add.ensures)
    (expanding-next g.C.Cell.storage _ _ _ _ _ c.items.invariant c.range.invariant.1 refl (rw c.count.ensures at c.items-test.true) (ranging-last g.C.Cell.storage c.range.invariant.0 c.if-k-steps.true))

pub returns : goal.returns
returns g c = expanding-end g.C.Cell.storage _ _ _ _ _ c.items.invariant (rw c.count.ensures at c.items-test.false)
