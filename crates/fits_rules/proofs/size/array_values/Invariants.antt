use Rattle.std.proofs.Common.{◌≡◌, take}
use Rattle.fits_rules.specs.Size.{product}
use Rattle.fits_rules.specs.SizeSteps.{limited}
use Rattle.fits_rules.proofs.size.array_values.Given as goal

abbrev pub invariant-loop-axis : goal.invariant-loop-axis
invariant-loop-axis l = l.total ≡ limited (product (take l.axis-index l.axes))
