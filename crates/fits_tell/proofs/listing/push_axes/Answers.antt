use Rattle.fits_tell.proofs.ExitLemmas.{last_ok}
use Rattle.fits_tell.proofs.ListingLemmas.{axes_whole}
use Rattle.fits_tell.proofs.listing.push_axes.Goals as goal

pub returns-in_ok-push_number-in-len1-up : goal.returns-in_ok-push_number-in-len1-up
returns-in_ok-push_number-in-len1-up c =
    last_ok _ c.push_more_axes.ensures
    (λ more. axes_whole c.args.line.now.items c.push_number.new.line.items c.push_more_axes.new.line.items c.args.axes.now _ c.in-len1-up.len_at_least
    c.in_ok-push_number-in-len1-up.ensures more)
