use Rattle.std.proofs.Common.{◌*◌, refl, arith}
use Rattle.fits_plane.proofs.PowerLemmas.{doubled, pow_up}
use Rattle.fits_plane.proofs.nodes.power_from.Goals as goal

pub loop-width-preserved : goal.loop-width-preserved
loop-width-preserved c = doubled c.args.used c.loop-width.width (c.loop-width.width * 2) c.loop-width.invariant.0 c.loop-width.invariant.1 c.loop-width.invariant.2 c.loop-width-test.true refl

-- a power of two past it would not be the least
pub returns-clause-small : goal.returns-clause-small
returns-clause-small c =
    let few = c.loop-width.invariant.2 62 (omega (arith, c.requires)) in
    omega (arith, c.loop-width.invariant.1, pow_up 62 c.loop-width.invariant.0 few)
