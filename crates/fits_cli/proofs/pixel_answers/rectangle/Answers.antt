use Rattle.fits_session.specs.Session.{marked_of}
use Rattle.fits_tell.proofs.ExitLemmas.{at_exit}
use Rattle.fits_cli.proofs.PixelAnswerLemmas.{rectangle_of_corners_fails}
use Rattle.fits_cli.proofs.pixel_answers.rectangle.Goals as goal

pub returns-in_err-values-clause-err : goal.returns-in_err-values-clause-err
returns-in_err-values-clause-err g c =
    at_exit _ _ _ c.from_residual.ensures.1 (rectangle_of_corners_fails (marked_of c.args.session.now) c.args.hdu c.as_slice.result.now c.as_slice-2.result.now c.args.lo c.args.hi c.in_err-values.field-0.0 c.as_slice.ensures
    c.as_slice-2.ensures c.in_err-values.ensures.err)
