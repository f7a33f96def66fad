use Rattle.fits_tell.proofs.ExitLemmas.{at_exit}
use Rattle.fits_tell.proofs.StatingLemmas.{stated, TextStopsBy-stating}
use Rattle.fits_tell.proofs.VerifyingLemmas.{PrintingStops-print}
use Rattle.fits_tell.proofs.stating.statistics.Goals as goal

pub returns-in_err-print-clause-err : goal.returns-in_err-print-clause-err
returns-in_err-print-clause-err g c =
    at_exit _ _ _ c.from_residual-in_err-print.ensures.1
    (TextStopsBy-stating _ _ _ _ c.in_ok-stats.stats.items c.in_err-print.field-0.0 c.in_ok-stats.ensures.ok c.in_ok-stats.ensures.quiet
    (PrintingStops-print _ _ _ c.in_err-print.field-0.0 (rw (c.deref-2.ensures.value, c.in_ok-text.ensures, c.deref.ensures.value) at c.in_err-print.ensures.err)))

pub returns-clause-ok : goal.returns-clause-ok
returns-clause-ok g c =
    stated _ _ _ _ c.in_ok-stats.stats.items c.in_ok-stats.ensures.ok c.in_ok-stats.ensures.quiet (rw (c.deref-2.ensures.value, c.in_ok-text.ensures, c.deref.ensures.value) at c.in_ok-print.ensures.ok)
