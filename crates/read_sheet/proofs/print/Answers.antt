-- `print` is safe: the expander gives no more numbers than the limit. Assumes nothing.
use mathlib.Core.Path.{sym, ◌∙◌}
use Prim.Native.Nat.{◌≤◌}
use native.Mathlib.Omega.{arith}
use lib.ListN.{length}
use lib.Seq.{length-take-le}
use Rattle.loss_list.specs.Run.{limit}
use Rattle.loss_list.proofs.Bounded.{numbers-limited}
use Rattle.read_sheet.proofs.print.Goals as goal

pub slice_bounds-numbers-end : goal.slice_bounds-numbers-end
unfolding limit
slice_bounds-numbers-end c = omega (arith, numbers-limited _ _ (sym c.in_ok-count.was ∙ c.decompress_loss_list.ensures.answer))

pub slice_bounds-number-items-end : goal.slice_bounds-number-items-end
unfolding limit
slice_bounds-number-items-end c =
    let fits : c.in_ok-count.count ≤ length c.decompress_loss_list.new.into = omega (arith, numbers-limited _ _ (sym c.in_ok-count.was ∙ c.decompress_loss_list.ensures.answer)) in
    sym (length-take-le c.in_ok-count.count c.decompress_loss_list.new.into fits)
