use Rattle.std.proofs.Common.{◌≡◌, ◌∙◌, ap, refl}
use Rattle.fits_passing.specs.Report.{report_of}
use Rattle.fits_session.specs.Session.{absences_of, file_of, marked_of, session_at, SessionState}
use Rattle.fits_session.proofs.OrderLemmas.{in_order}
use Rattle.fits_cli.specs.NewTables.{table_problems}
use Rattle.fits_cli.specs.Reports.{reports_of}
use Rattle.fits_cli.specs.Running.{Progress}
use Rattle.fits_cli.proofs.OverLemmas.{seen_file}
use Rattle.fits_cli.proofs.UnderWayLemmas.{looked_over}
use Rattle.fits_cli.proofs.runner.Runner.reports.Goals as goal

-- all was looked at, so the file is the same over each that its reads may be of
pub returns-clause-value : goal.returns-clause-value
unfolding reports_of
returns-clause-value g c told _ =
    let session : SessionState = c.self.inside.session in
    let same : file_of (session_at told session) ≡ file_of session = seen_file told session (c.self.invariant.seen (rw (← c.self.view_is) at c.requires)) in
    let problems : c.in_ok-problems.problems.items ≡ report_of (file_of session) = c.in_ok-problems.ensures.value in
    let tables : c.in_ok-tables.tables.items ≡ table_problems c.args.tables (file_of session) = rw c.known_report.ensures.same at c.in_ok-tables.ensures.value in
    rw (← c.self.view_is) (rw (problems, tables, same) refl)

pub returns-clause-ordered : goal.returns-clause-ordered
returns-clause-ordered g c = rw c.in_ok-problems.ensures.value (in_order (file_of c.self.inside.session))

-- the file stays
pub returns-clause-standing : goal.returns-clause-standing
returns-clause-standing g c told =
    let it : Progress = record {
      session = c.self.inside.session;
      tables = c.self.inside.tables;
      line = c.self.inside.line;
      refused = c.self.inside.refused;
      edited = c.self.inside.edited;
      whole = c.self.inside.whole;
      extended = c.self.inside.extended;
      look = c.self.inside.look;
      log = c.self.inside.log;
    } in
    rw (← c.self.view_is)
    (looked_over it c.table_problems.new.session told (c.table_problems.ensures.same ∙ ap marked_of c.known_report.ensures.same)
    (c.table_problems.ensures.absences ∙ ap (λ (s : SessionState). absences_of s.hdus) c.known_report.ensures.same))

pub returns-in_err-tables-clause-standing : goal.returns-in_err-tables-clause-standing
returns-in_err-tables-clause-standing g c told =
    let it : Progress = record {
      session = c.self.inside.session;
      tables = c.self.inside.tables;
      line = c.self.inside.line;
      refused = c.self.inside.refused;
      edited = c.self.inside.edited;
      whole = c.self.inside.whole;
      extended = c.self.inside.extended;
      look = c.self.inside.look;
      log = c.self.inside.log;
    } in
    rw (← c.self.view_is)
    (looked_over it c.table_problems.new.session told (c.table_problems.ensures.same ∙ ap marked_of c.known_report.ensures.same)
    (c.table_problems.ensures.absences ∙ ap (λ (s : SessionState). absences_of s.hdus) c.known_report.ensures.same))
