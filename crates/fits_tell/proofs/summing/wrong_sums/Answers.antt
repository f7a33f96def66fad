use Rattle.fits_tell.proofs.ExitLemmas.{at_exit}
use Rattle.fits_tell.proofs.SummingLemmas.{summed_wrong, TextStopsBy-wrong}
use Rattle.fits_tell.proofs.VerifyingLemmas.{PrintingStops-print}
use Rattle.fits_tell.proofs.summing.wrong_sums.Goals as goal

pub returns-in_err-print-clause-err : goal.returns-in_err-print-clause-err
returns-in_err-print-clause-err g c =
    at_exit _ _ _ c.from_residual-in_err-print.ensures.1
    (TextStopsBy-wrong _ _ _ _ c.in_ok-sums.sums.items c.in_err-print.field-0.0 c.in_ok-sums.ensures.ok c.in_ok-sums.ensures.quiet
    (PrintingStops-print _ _ _ c.in_err-print.field-0.0 (rw (c.deref-2.ensures.value, c.in_ok-text.ensures, c.deref.ensures.value) at c.in_err-print.ensures.err)))

pub returns-clause-ok : goal.returns-clause-ok
returns-clause-ok g c =
    summed_wrong _ _ _ _ c.in_ok-sums.sums.items _ _ c.in_ok-sums.ensures.ok c.in_ok-sums.ensures.quiet (rw (c.deref-2.ensures.value, c.in_ok-text.ensures, c.deref.ensures.value) at c.in_ok-print.ensures.ok)
    (rw c.deref-3.ensures.value at c.has_wrong.ensures) c.one_if.ensures
