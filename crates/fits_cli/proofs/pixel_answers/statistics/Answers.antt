use Rattle.std.proofs.Common.{◌∙◌, sym}
use Rattle.fits_session.specs.Session.{marked_of}
use Rattle.fits_tell.proofs.ExitLemmas.{at_exit}
use Rattle.fits_cli.proofs.PixelAnswerLemmas.{statistics_fails}
use Rattle.fits_cli.proofs.pixel_answers.statistics.Goals as goal

pub returns-in_err-stats-clause-err : goal.returns-in_err-stats-clause-err
returns-in_err-stats-clause-err g c = at_exit _ _ _ c.from_residual.ensures.1 (statistics_fails (marked_of c.args.session.now) c.args.hdu c.in_err-stats.field-0.0 (sym c.known_stats.ensures ∙ c.in_err-stats.was))
