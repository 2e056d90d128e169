-- `search` meets its contract: each turn looks at one item, by the laws of `Searching`. Assumes nothing.
use mathlib.Core.Path.{◌∙◌}
use native.Mathlib.Omega.{arith}
use Rattle.loss_list.proofs.Expands.{judged-expanded}
use Rattle.why_lost.proofs.Searching.{Turn, searching-start, searching-turn, searching-end, or-then}
use Rattle.why_lost.proofs.look.search.Goals as goal

pub loop-i-init : goal.loop-i-init
loop-i-init g c = searching-start _ _ (judged-expanded _ c.args.judged.now.judged).0 c.requires.number_bound

pub overflow_add-i-in-loop-i : goal.overflow_add-i-in-loop-i
overflow_add-i-in-loop-i g c =
    let turn : Turn (g.C.Cell.words c.args.judged.now.list.now) c.args.number c.loop-i.found c.loop-i.i c.item_of-item.result = searching-turn _ _ _ _ c.loop-i.invariant (rw c.count.ensures at c.loop-i-test.true) (rw c.word.ensures at c.word.type_inv)
    (rw (c.word.ensures, c.word-in-loop-i.ensures) at c.item_of-item.ensures) in
    omega (arith, turn.within, c)

pub loop-i-smaller : goal.loop-i-smaller
loop-i-smaller g c =
    let turn : Turn (g.C.Cell.words c.args.judged.now.list.now) c.args.number c.loop-i.found c.loop-i.i c.item_of-item.result = searching-turn _ _ _ _ c.loop-i.invariant (rw c.count.ensures at c.loop-i-test.true) (rw c.word.ensures at c.word.type_inv)
    (rw (c.word.ensures, c.word-in-loop-i.ensures) at c.item_of-item.ensures) in
    omega (arith, turn.more, turn.within)

pub loop-i-preserved : goal.loop-i-preserved
loop-i-preserved g c =
    let turn : Turn (g.C.Cell.words c.args.judged.now.list.now) c.args.number c.loop-i.found c.loop-i.i c.item_of-item.result = searching-turn _ _ _ _ c.loop-i.invariant (rw c.count.ensures at c.loop-i-test.true) (rw c.word.ensures at c.word.type_inv)
    (rw (c.word.ensures, c.word-in-loop-i.ensures) at c.item_of-item.ensures) in
    turn.next (rw c.then_some.ensures at c.or-found.ensures ∙ or-then c.loop-i.found c.item_of-item.result.covers c.loop-i.i)

pub returns : goal.returns
returns g c = searching-end _ _ _ _ c.loop-i.invariant (rw c.count.ensures at c.loop-i-test.false)
