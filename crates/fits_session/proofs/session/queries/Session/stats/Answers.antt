use Rattle.fits_session.proofs.HadLemmas.{so_counted}
use Rattle.fits_session.proofs.session.queries.Session.stats.Goals as goal

pub known_stats-requires : goal.known_stats-requires
known_stats-requires c = so_counted c.args.h c.args.self.now.hdus c.are_held.ensures
