use Rattle.std.proofs.Common.{◌∙◌, sym}
use Rattle.fits_session.specs.Session.{marked_of}
use Rattle.fits_tell.proofs.ExitLemmas.{at_exit}
use Rattle.fits_cli.proofs.PixelAnswerLemmas.{kept_fails}
use Rattle.fits_cli.proofs.kept_line.kept.Goals as goal

pub returns-in_err-kept-clause-err : goal.returns-in_err-kept-clause-err
returns-in_err-kept-clause-err g c = at_exit _ _ _ c.from_residual.ensures.1 (kept_fails (marked_of c.args.session.now) c.args.hdu c.in_err-kept.field-0.0 (sym c.kept.ensures.value ∙ c.in_err-kept.was))
