use Rattle.std.proofs.Common.{◌+◌, arith}
use Rattle.fits_image.proofs.ImageHeaderLemmas.{axes_done, axis_settable}
use Rattle.fits_image.proofs.image_cards.push_axes.Goals as goal

pub push_number-requires : goal.push_number-requires
push_number-requires c = record { settable = rw c.axis_name.ensures (axis_settable (c.loop-k.k + 1) (omega (arith, c.loop-k-test.true, c.requires))) }

pub returns : goal.returns
returns c = axes_done _ _ c.args.axes.now c.loop-k.k (omega (arith, c.loop-k-test.false)) c.loop-k.invariant.pushed
