use Rattle.std.proofs.Common.{◌≡◌, take, map}
use Rattle.fits_c.proofs.pixels.widened.Given as goal

abbrev pub invariant-loop-value : goal.invariant-loop-value
invariant-loop-value g l = l.wide.items ≡ map g.N.Number.value (take l.value-index l.values)
