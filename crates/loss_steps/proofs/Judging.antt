-- The walk that judges a list: what it has counted, with the items that are left, gives the list's answer. Assumes nothing.
use Rattle.std.specs.Prelude.{None, Result, Ok, Err}
use mathlib.Core.Path.{◌≡◌, sym, ap, ◌∙◌}
use mathlib.Core.List.{List, []}
use Prim.Native.Nat.{ℕ, ◌+◌, ◌<◌, ◌≤◌}
use native.Mathlib.Omega.{arith}
use lib.ListN.{length, drop}
use Rattle.refusal.specs.declared.Refusal.{Refusal}
use Rattle.loss_list.specs.Run.{limit}
use Rattle.loss_list.specs.Expand.{Sound, items, formed}
use Rattle.loss_list.proofs.Places.{none_from}
use Rattle.loss_steps.specs.Items.{HeadAt, tallied, tally_with}
use Rattle.loss_steps.specs.declared.item.Head.{Head}
use Rattle.loss_steps.specs.declared.item.Tally.{Tally}
use Rattle.loss_steps.proofs.Heads.{run-within, run-item, fault-item}
use Rattle.loss_steps.proofs.Tallies.{tally-none, tally-carries}

pub record Judging (ws : List ℕ) (t : Tally) (i : ℕ) : Type 0 where
  pub within : i ≤ length ws
  pub same : tallied t (items i (drop i ws)) ≡ formed limit (items 0 ws)

pub judging-start : (ws : List ℕ) → Judging ws (record { total = 0; past = None }) 0
judging-start ws = record { within = omega arith; same = tally-none (items 0 ws) }

module _ (ws : List ℕ) (t : Tally) (i : ℕ) (j : Judging ws t i) where
  module _ {r : Result Head Refusal} (at : HeadAt ws i r) where
    pub judging-turn : {h : Head} (next : Tally) → i < length ws → r ≡ Ok h → next ≡ tally_with t i h.steps → Judging ws next (i + h.words)
    judging-turn {h} next l e c =
        record {
          within = omega (arith, (run-within ws i at e).1);
          same = ap (λ (x : Tally). tallied x (items (i + h.words) (drop (i + h.words) ws))) c ∙ sym (tally-carries t i h.first h.steps _) ∙ rw (← run-item ws i at e) j.same;
        }

    pub judging-fault : {f : Refusal} → r ≡ Err f → Err f ≡ formed limit (items 0 ws)
    unfolding tallied
    judging-fault e = ap (tallied t) (sym (fault-item ws i at e)) ∙ j.same

  pub judging-end : length ws ≤ i → tallied t (Sound []) ≡ formed limit (items 0 ws)
  unfolding items
  judging-end l = ap (λ (l : List ℕ). tallied t (items i l)) (sym (none_from ws i l)) ∙ j.same
