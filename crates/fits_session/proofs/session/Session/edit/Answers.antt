use Rattle.fits_session.proofs.HadLemmas.{ready_held}
use Rattle.fits_session.proofs.session.Session.edit.Goals as goal

pub make-requires : goal.make-requires
make-requires c = ready_held c.args.edit c.args.self.now.hdus c.are_held.ensures
