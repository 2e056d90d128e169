-- `run_end` meets its contract: each turn passes one more number of the run, by the laws of `Runs`. Assumes nothing.
use mathlib.Core.Path.{◌≡◌, sym, ◌∙◌}
use native.Mathlib.Omega.{arith}
use Rattle.loss_list.proofs.Order.{all_in}
use Rattle.loss_list.proofs.Runs.{running-start, running-turn, running-end, running-apart}
use Rattle.loss_compression.proofs.run_end.Goals as goal

pub loop-j-init : goal.loop-j-init
loop-j-init g c = rw c.word-last.ensures (running-start _ _ c.requires.0 (all_in _ c.requires.1 _ c.requires.0))

pub returns-then-this-add : goal.returns-then-this-add
returns-then-this-add g c =
    running-apart _ _ _ _ c.loop-j.invariant (omega arith) (λ e. c.if-this-add.true (c.word-this.ensures ∙ e ∙ sym c.add.ensures))

pub loop-j-preserved : goal.loop-j-preserved
loop-j-preserved g c =
    rw c.word-this.ensures (running-turn _ _ _ _ c.loop-j.invariant (omega arith) (sym c.word-this.ensures ∙ c.if-this-add.false ∙ c.add.ensures))

pub returns : goal.returns
returns g c =
    let end : c.count-count.result ≡ c.loop-j.j = omega (arith, c.loop-j.invariant.within) in
    rw end (running-end _ _ _ _ c.loop-j.invariant (omega arith))
