use Rattle.fits_session.proofs.HadLemmas.{so_seen}
use Rattle.fits_session.proofs.session.queries.Session.datasum.Goals as goal

pub known_datasum-requires : goal.known_datasum-requires
known_datasum-requires c = so_seen c.args.h c.args.self.now.hdus c.are_held.ensures
