use Rattle.fits_tell.proofs.ExitLemmas.{at_exit}
use Rattle.fits_tell.proofs.ListingLemmas.{outlined_within}
use Rattle.fits_tell.proofs.TellingLemmas.{listed, TextStopsBy-listing}
use Rattle.fits_tell.proofs.listing.list.Goals as goal

pub print_outlines-requires : goal.print_outlines-requires
print_outlines-requires g c = rw c.deref.ensures.value (outlined_within (g.F.Source.state c.args.file.now) _ c.in_ok-outlines.outlines.items c.in_ok-outlines.ensures.ok)

pub returns-in_err-print_outlines-clause-err : goal.returns-in_err-print_outlines-clause-err
returns-in_err-print_outlines-clause-err g c =
    at_exit _ _ _ c.from_residual-in_err-print_outlines.ensures.1
    (TextStopsBy-listing _ _ _ _ c.in_ok-outlines.outlines.items c.in_err-print_outlines.field-0.0 c.in_ok-outlines.ensures.ok c.in_ok-outlines.ensures.quiet (rw c.deref.ensures.value at c.in_err-print_outlines.ensures.err))

pub returns-clause-ok : goal.returns-clause-ok
returns-clause-ok g c =
    listed _ _ _ _ c.in_ok-outlines.outlines.items c.in_ok-outlines.ensures.ok c.in_ok-outlines.ensures.quiet (rw c.deref.ensures.value at c.in_ok-print_outlines.ensures.ok)
