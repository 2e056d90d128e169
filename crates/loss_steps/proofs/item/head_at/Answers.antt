-- `head_at` meets its contract: each return is a case of `head_of`. Assumes nothing.
use mathlib.Core.Path.{sym, ◌∙◌}
use Prim.Native.Nat.{◌≤◌, ◌^◌}
use native.Mathlib.Omega.{arith}
use lib.ListN.{get_or}
use Rattle.loss_list.specs.Run.{precedes}
use Rattle.loss_steps.proofs.Heads.{flagged-within, at-lone, at-open, at-flagged, at-range, at-backward, told}
use Rattle.loss_steps.proofs.item.head_at.Goals as goal

pub overflow_add-end : goal.overflow_add-end
overflow_add-end g c =
    let f : 2 ^ 31 ≤ get_or (g.C.Cell.words c.args.list.now) c.args.i 0 = omega arith in
    omega (arith, flagged-within (g.C.Cell.words c.args.list.now) c.args.i f, c)

pub returns-then-word-lt-FLAG : goal.returns-then-word-lt-FLAG
returns-then-word-lt-FLAG g c =
    let w = c.word-word in
    told _ _ (rw w.ensures at w.type_inv) (rw w.ensures (at-lone _ _ (rw w.ensures at c.if-word-lt-FLAG.true)))

pub returns-then-count-end : goal.returns-then-count-end
returns-then-count-end g c =
    let w = c.word-word in
    told _ _ (rw w.ensures at w.type_inv) (at-open _ _ (rw w.ensures at c.if-word-lt-FLAG.false) (rw c.count-count.ensures at c.if-count-end.true))

pub returns-then-next-ge-FLAG : goal.returns-then-next-ge-FLAG
returns-then-next-ge-FLAG g c =
    let w = c.word-word in
    told _ _ (rw w.ensures at w.type_inv)
    (at-flagged _ _ (rw w.ensures at c.if-word-lt-FLAG.false) (rw c.count-count.ensures at c.if-count-end.false) (rw c.word-next.ensures at c.if-next-ge-FLAG.true))

pub returns-then-lt : goal.returns-then-lt
unfolding precedes
returns-then-lt g c =
    let at = c in
    let w = at.word-word in
    told _ _ (rw w.ensures at w.type_inv)
    (rw (at.distance.ensures, w.ensures, at.word-next.ensures)
    (at-range _ _ (rw w.ensures at at.if-word-lt-FLAG.false) (rw at.count-count.ensures at at.if-count-end.false) (rw at.word-next.ensures at at.if-next-ge-FLAG.false)
    (rw (w.ensures, at.word-next.ensures) at (sym at.lt.ensures ∙ at.if-lt.true))))

pub returns-else-lt : goal.returns-else-lt
unfolding precedes
returns-else-lt g c =
    let at = c in
    let w = at.word-word in
    told _ _ (rw w.ensures at w.type_inv)
    (at-backward _ _ (rw w.ensures at at.if-word-lt-FLAG.false) (rw at.count-count.ensures at at.if-count-end.false) (rw at.word-next.ensures at at.if-next-ge-FLAG.false)
    (rw (w.ensures, at.word-next.ensures) at (sym at.lt.ensures ∙ at.if-lt.false)))
