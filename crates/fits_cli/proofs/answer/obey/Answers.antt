use Rattle.fits_session.specs.Session.{marked_of}
use Rattle.fits_tell.proofs.ExitLemmas.{at_exit}
use Rattle.fits_cli.proofs.RefusalLemmas.{CommandFails-edit}
use Rattle.fits_cli.proofs.answer.obey.Goals as goal

pub returns-in_err-make-in-Edit-clause-err : goal.returns-in_err-make-in-Edit-clause-err
returns-in_err-make-in-Edit-clause-err g c =
    let refused = c.in_err-make-in-Edit.ensures.edits.refused in
    rw c.in-Edit.is (at_exit _ _ _ c.from_residual.ensures.1 (CommandFails-edit (marked_of c.args.session.now) c.in-Edit.edit c.in_err-make-in-Edit.field-0.0 refused))
