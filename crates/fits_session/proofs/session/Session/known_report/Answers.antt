use Rattle.std.proofs.Common.{◌+◌, arith, ap, length}
use Rattle.std.proofs.lemmas.Grind.{common_steps}
use Rattle.fits_session.proofs.CountLemmas.{report_is}
use Rattle.fits_session.proofs.KeptLemmas.{kept_named}
use Rattle.fits_session.proofs.WalkLemmas.{followed_seen}
use Rattle.fits_session.proofs.session.Session.known_report.Goals as goal

pub problems-requires-clause-seen : goal.problems-requires-clause-seen
problems-requires-clause-seen g c = rw (← c.self.view_is) at c.requires

pub problems-requires-clause-named : goal.problems-requires-clause-named
problems-requires-clause-named g c = kept_named _ c.self.inside.hdus.items c.self.inside.tail.items c.self.inside.len c.self.inside.names.numbers.items c.self.inside.names.room c.self.invariant

pub returns-clause-value : goal.returns-clause-value
returns-clause-value g c =
    rw (← c.self.view_is) (report_is c.self.inside.hdus.items c.self.inside.tail.items (c.len.result + 1) c.in_ok-report.report.items c.push_trailing.new.report.items c.in_ok-report.ensures.value (omega (arith, c.len.ensures, c.problems.new.hdus.ok.0, ap length c.problems.ensures.same))
    (c.in_ok-push_trailing.ensures c.self.inside.tail.items (followed_seen c.self.inside.tail.items c.is_empty.result (grind (arith, common_steps)))))
