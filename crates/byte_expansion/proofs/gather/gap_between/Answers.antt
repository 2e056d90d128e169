-- `gap_between` meets its contract: the product is the gap. Assumes nothing.
use mathlib.Core.Path.{refl}
use Rattle.byte_expansion.proofs.Gathering.{gap-product, gap-fits}
use Rattle.byte_expansion.proofs.gather.gap_between.Goals as goal

pub returns : goal.returns
returns c =
    rw (gap-product c.args.before c.args.this c.distance-between.result c.ranges.before.fits (rw c.add.ensures at c.distance-between.ensures)) (refl, gap-fits c.args.before c.args.this c.ranges.this.fits)
