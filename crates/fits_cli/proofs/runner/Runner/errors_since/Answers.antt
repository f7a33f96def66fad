use Rattle.std.proofs.Common.{List, AllPairs, ap, sym, subst, ◌∙◌}
use Rattle.fits_passing.specs.Report.{IsListedBefore}
use Rattle.fits_passing.specs.declared.problem.Problem.{Problem}
use Rattle.fits_tell.specs.declared.level.Level.{Level}
use Rattle.fits_cli.specs.Reports.{new_error_count, new_lines, new_warning_count, read_reports, reports_of}
use Rattle.fits_cli.specs.Running.{standing_at}
use Rattle.fits_cli.proofs.ReportsLemmas.{quiet_errors, quiet_lines, quiet_warnings}
use Rattle.fits_cli.proofs.runner.Runner.errors_since.Goals as goal

-- a level that lists nothing has nothing new
pub returns-in-Quiet-clause-text : goal.returns-in-Quiet-clause-text
returns-in-Quiet-clause-text g c told by =
    let before = read_reports c.args.before.now in
    let after = reports_of c.args.tables (standing_at told c.args.self.now).marked.file in
    c.none.ensures.text ∙ (quiet_lines before after ∙ ap (λ (level : Level). new_lines level before after) (sym c.in-Quiet.is))

pub returns-in-Quiet-clause-errors : goal.returns-in-Quiet-clause-errors
returns-in-Quiet-clause-errors g c told by =
    let before = read_reports c.args.before.now in
    let after = reports_of c.args.tables (standing_at told c.args.self.now).marked.file in
    c.none.ensures.errors ∙ (quiet_errors before after ∙ ap (λ (level : Level). new_error_count level before after) (sym c.in-Quiet.is))

pub returns-in-Quiet-clause-warnings : goal.returns-in-Quiet-clause-warnings
returns-in-Quiet-clause-warnings g c told by =
    let before = read_reports c.args.before.now in
    let after = reports_of c.args.tables (standing_at told c.args.self.now).marked.file in
    c.none.ensures.warnings ∙ (quiet_warnings before after ∙ ap (λ (level : Level). new_warning_count level before after) (sym c.in-Quiet.is))

-- a report is in order
pub errors_since-requires : goal.errors_since-requires
errors_since-requires g c = subst (λ (report : List Problem). AllPairs IsListedBefore report) (sym c.deref.ensures.value) c.requires.ordered
