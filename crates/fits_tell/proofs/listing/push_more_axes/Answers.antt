use Rattle.fits_tell.proofs.ListingLemmas.{axes_step}
use Rattle.fits_tell.proofs.listing.push_more_axes.Goals as goal

pub loop-axis-preserved : goal.loop-axis-preserved
loop-axis-preserved c =
    axes_step c.args.line.now.items c.loop-axis.line.items c.push_number.new.line.items c.args.axes.now c.loop-axis.axis-index _ c.loop-axis-test.true c.loop-axis.invariant c.in_ok-push_number.ensures
