use Rattle.std.proofs.Common.{◌∙◌, sym}
use Rattle.fits_session.specs.Session.{marked_of}
use Rattle.fits_tell.proofs.ExitLemmas.{at_exit}
use Rattle.fits_cli.proofs.PixelAnswerLemmas.{sums_fails, verdicts_fails}
use Rattle.fits_cli.proofs.pixel_answers.sums.Goals as goal

pub returns-in_err-sum-clause-err : goal.returns-in_err-sum-clause-err
returns-in_err-sum-clause-err g c = at_exit _ _ _ c.from_residual.ensures.1 (sums_fails (marked_of c.args.session.now) c.args.hdu c.in_err-sum.field-0.0 (sym c.known_datasum.ensures ∙ c.in_err-sum.was))

pub returns-in_err-verdicts-clause-err : goal.returns-in_err-verdicts-clause-err
returns-in_err-verdicts-clause-err g c =
    at_exit _ _ _ c.from_residual-in_err-verdicts.ensures.1 (verdicts_fails (marked_of c.args.session.now) c.args.hdu c.in_ok-sum.sum c.in_err-verdicts.field-0.0 (sym c.known_datasum.ensures ∙ c.in_ok-sum.was)
    (sym c.known_verdicts.ensures ∙ c.in_err-verdicts.was))
