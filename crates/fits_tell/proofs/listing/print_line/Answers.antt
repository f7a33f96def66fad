use Rattle.fits_tell.proofs.ExitLemmas.{at_exit}
use Rattle.fits_tell.proofs.VerifyingLemmas.{PrintingStops-none, PrintingStops-print}
use Rattle.fits_tell.proofs.listing.print_line.Goals as goal

pub returns-in_err-push_line-clause-err : goal.returns-in_err-push_line-clause-err
returns-in_err-push_line-clause-err g c = at_exit _ _ _ c.from_residual.ensures.1 (PrintingStops-none (g.O.Sink.state c.args.out.now) _)

pub returns-in_err-print-clause-err : goal.returns-in_err-print-clause-err
returns-in_err-print-clause-err g c =
    at_exit _ _ _ c.from_residual-in_err-print.ensures.1
    (PrintingStops-print _ _ _ c.in_err-print.field-0.0 (rw (c.as_slice.ensures.value, c.in_ok-push_line.ensures, c.clear.ensures.items) at c.in_err-print.ensures.err))

pub returns-clause-ok : goal.returns-clause-ok
returns-clause-ok g c = rw (c.as_slice.ensures.value, c.in_ok-push_line.ensures, c.clear.ensures.items) at c.in_ok-print.ensures.ok
