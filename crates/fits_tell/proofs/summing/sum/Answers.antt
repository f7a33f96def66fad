use Rattle.fits_tell.proofs.ExitLemmas.{at_exit}
use Rattle.fits_tell.proofs.SummingLemmas.{summed, TextStopsBy-summing}
use Rattle.fits_tell.proofs.summing.sum.Goals as goal

pub returns-in_err-print_sums-clause-err : goal.returns-in_err-print_sums-clause-err
returns-in_err-print_sums-clause-err g c =
    at_exit _ _ _ c.from_residual-in_err-print_sums.ensures.1
    (TextStopsBy-summing _ _ _ _ c.in_ok-sums.sums.items c.in_err-print_sums.field-0.0 c.in_ok-sums.ensures.ok c.in_ok-sums.ensures.quiet (rw c.deref.ensures.value at c.in_err-print_sums.ensures.err))

pub returns-clause-ok : goal.returns-clause-ok
returns-clause-ok g c =
    summed _ _ _ _ c.in_ok-sums.sums.items c.in_ok-sums.ensures.ok c.in_ok-sums.ensures.quiet (rw c.deref.ensures.value at c.in_ok-print_sums.ensures.ok)
