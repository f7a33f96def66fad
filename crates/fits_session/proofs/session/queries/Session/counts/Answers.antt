use Rattle.fits_session.proofs.HadLemmas.{all_seen_held}
use Rattle.fits_session.proofs.session.queries.Session.counts.Goals as goal

pub known_counts-requires : goal.known_counts-requires
known_counts-requires c = all_seen_held c.args.self.now.hdus c.are_held.ensures
