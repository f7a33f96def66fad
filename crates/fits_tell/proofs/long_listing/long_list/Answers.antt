use Rattle.fits_tell.proofs.ExitLemmas.{at_exit}
use Rattle.fits_tell.proofs.ListingLemmas.{called_within}
use Rattle.fits_tell.proofs.TellingLemmas.{listed_long, TextStopsBy-long}
use Rattle.fits_tell.proofs.long_listing.long_list.Goals as goal

pub print_called-requires : goal.print_called-requires
print_called-requires g c = rw c.deref.ensures.value (called_within (g.F.Source.state c.args.file.now) _ c.in_ok-outlines.outlines.items c.in_ok-outlines.ensures.ok)

pub returns-in_err-print_called-clause-err : goal.returns-in_err-print_called-clause-err
returns-in_err-print_called-clause-err g c =
    at_exit _ _ _ c.from_residual-in_err-print_called.ensures.1
    (TextStopsBy-long _ _ _ _ c.in_ok-outlines.outlines.items c.in_err-print_called.field-0.0 c.in_ok-outlines.ensures.ok c.in_ok-outlines.ensures.quiet (rw c.deref.ensures.value at c.in_err-print_called.ensures.err))

pub returns-clause-ok : goal.returns-clause-ok
returns-clause-ok g c =
    listed_long _ _ _ _ c.in_ok-outlines.outlines.items c.in_ok-outlines.ensures.ok c.in_ok-outlines.ensures.quiet (rw c.deref.ensures.value at c.in_ok-print_called.ensures.ok)
