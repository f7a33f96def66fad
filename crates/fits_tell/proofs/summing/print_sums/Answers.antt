use Rattle.fits_tell.proofs.ExitLemmas.{at_exit}
use Rattle.fits_tell.proofs.SummingLemmas.{prints_line, stops_at_line, stops_before_line}
use Rattle.fits_tell.proofs.VerifyingLemmas.{PrintingStops-print}
use Rattle.fits_tell.proofs.summing.print_sums.Goals as goal

pub returns-in_err-push_line-clause-err : goal.returns-in_err-push_line-clause-err
returns-in_err-push_line-clause-err g c = at_exit _ _ _ c.from_residual.ensures.1 (stops_before_line _ _ c.args.sums.now c.loop-i.i c.loop-i.invariant)

pub returns-in_err-print-clause-err : goal.returns-in_err-print-clause-err
returns-in_err-print-clause-err g c =
    at_exit _ _ _ c.from_residual-in_err-print.ensures.1
    (stops_at_line _ _ _ c.args.sums.now c.loop-i.i _ c.in_err-print.field-0.0 c.loop-i-test.true c.loop-i.invariant
    (PrintingStops-print _ _ _ c.in_err-print.field-0.0 (rw (c.deref.ensures.value, c.in_ok-push_line.ensures, c.clear.ensures.items) at c.in_err-print.ensures.err)))

pub loop-i-preserved : goal.loop-i-preserved
loop-i-preserved g c =
    prints_line _ _ _ c.args.sums.now c.loop-i.i _ c.loop-i-test.true c.loop-i.invariant
    (rw (c.deref.ensures.value, c.in_ok-push_line.ensures, c.clear.ensures.items) at c.in_ok-print.ensures.ok)
