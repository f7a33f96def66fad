use Rattle.std.proofs.Common.{ap, arith}
use Rattle.std.proofs.lemmas.List.{drop_all}
use Rattle.fits_pixels.specs.Scan.{lowest}
use Rattle.fits_pixels.proofs.LaneLemmas.{lowest-le}
use Rattle.fits_pixels.proofs.pixels_8.least_lane.Goals as goal

pub loop-i-init : goal.loop-i-init
loop-i-init c = record { least = omega (arith, lowest-le c.args.lanes.now); small = omega arith }

pub returns : goal.returns
returns c =
    let none = ap lowest (drop_all c.loop-i.i c.args.lanes.now (omega arith)) in
    omega (arith, none, c.loop-i.invariant.least, c.loop-i.invariant.small, lowest-le c.args.lanes.now)
