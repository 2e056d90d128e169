-- Items looked at one by one, in the terms of WhyLost. Assumes nothing.
use Rattle.std.specs.Prelude.{ℕ, ◌-◌, ◌^◌, Bool, cond, leb, eqb, Option, Some, None}
use Rattle.ring.specs.Ring.{distance}
use Rattle.loss_list.specs.Run.{flagged}
use Rattle.loss_list.specs.Expand.{Parsed}
use Rattle.why_lost.specs.WhyLost.{searched}
use Rattle.why_lost.specs.declared.look.Look.{Look}

-- the item that begins with w, where e follows: a range covers the numbers no more steps after its start than its end is
unfoldable pub look_of : ℕ → ℕ → ℕ → Look
look_of w e n =
    cond (flagged w)
    (record { covers = leb (distance 31 n (w - 2 ^ 31)) (distance 31 e (w - 2 ^ 31)); words = 2 })
    (record { covers = eqb w n; words = 1 })

-- f with the item at place p looked at: the first that covers the number stays
unfoldable pub found_with : Option ℕ → Bool → ℕ → Option ℕ
found_with (Some q) covers p = Some q
found_with None covers p = cond covers (Some p) None

-- the answer for n to a list of which the items looked at in f came before these
unfoldable pub found_before : Option ℕ → Parsed → ℕ → Option ℕ
found_before (Some q) ps n = Some q
found_before None ps n = searched ps n
