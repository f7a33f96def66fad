use Rattle.fits_tell.proofs.TellingLemmas.{TextStopsBy-flush, TextIsPrinted-flushed}
use Rattle.fits_tell.proofs.ExitLemmas.{at_exit}
use Rattle.fits_tell.proofs.telling.tell.Goals as goal

pub returns-in_err-flush-clause-err : goal.returns-in_err-flush-clause-err
returns-in_err-flush-clause-err g c =
    at_exit _ _ _ c.from_residual-in_err-flush.ensures.1 (TextStopsBy-flush c.args.telling _ _ _ _ _ _ _ c.in_ok-status.ensures.ok c.in_err-flush.ensures.err)

pub returns-clause-ok : goal.returns-clause-ok
returns-clause-ok g c = TextIsPrinted-flushed c.args.telling _ _ _ _ _ _ c.in_ok-status.ensures.ok c.in_ok-flush.ensures.ok
