use Rattle.fits_session.proofs.HadLemmas.{so_pixels}
use Rattle.fits_session.proofs.session.queries.Session.rect.Goals as goal

pub held_rect-requires : goal.held_rect-requires
held_rect-requires c = so_pixels c.args.lo.now c.args.hi.now c.args.h c.args.self.now.hdus c.are_held.ensures
