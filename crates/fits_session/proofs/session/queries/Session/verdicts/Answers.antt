use Rattle.fits_session.proofs.HadLemmas.{so_seen}
use Rattle.fits_session.proofs.session.queries.Session.verdicts.Goals as goal

pub known_verdicts-requires : goal.known_verdicts-requires
known_verdicts-requires c = so_seen c.args.h c.args.self.now.hdus c.are_held.ensures
