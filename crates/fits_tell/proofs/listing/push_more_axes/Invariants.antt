use Rattle.std.proofs.Common.{◌≡◌, ◌++◌, take}
use Rattle.fits_tell.specs.Listing.{more_axes_text}
use Rattle.fits_tell.proofs.listing.push_more_axes.Given as goal

abbrev pub invariant-loop-axis : goal.invariant-loop-axis
invariant-loop-axis l = l.line.items ≡ l.fn.line.items ++ more_axes_text (take l.axis-index l.axes)
