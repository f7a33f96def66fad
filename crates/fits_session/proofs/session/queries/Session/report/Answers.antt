use Rattle.fits_session.proofs.HadLemmas.{all_seen_held}
use Rattle.fits_session.proofs.session.queries.Session.report.Goals as goal

pub known_report-requires : goal.known_report-requires
known_report-requires c = all_seen_held c.args.self.now.hdus c.are_held.ensures
