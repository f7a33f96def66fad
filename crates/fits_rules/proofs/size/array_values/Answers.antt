use Rattle.std.proofs.Common.{arith}
use Rattle.fits_rules.proofs.SizeLemmas.{array_more}
use Rattle.fits_rules.proofs.size.array_values.Goals as goal

pub loop-axis-preserved : goal.loop-axis-preserved
loop-axis-preserved c = array_more c.args.axes.now c.loop-axis.axis-index _ _ _ (omega arith) c.times-total.ensures c.loop-axis.invariant
