-- When something is new in the reports of a file and of its tables.
use Rattle.std.proofs.Common.{◌≡◌, ◌+◌, ◌<◌, ◌≤◌, Bool, List, [], ◌∷◌, length, refl, ap, ◌∙◌, inl, inr, arith}
use Rattle.std.specs.List.{filter}
use Rattle.std.proofs.lemmas.Bool.{cases_lt}
use Rattle.fits_passing.specs.File.{FileParts}
use Rattle.fits_passing.specs.Report.{report_of}
use Rattle.fits_session.proofs.OrderLemmas.{in_order}
use Rattle.fits_tell.specs.declared.level.Level.{Level}
use Rattle.fits_tell.specs.declared.level.Level.TheVariants.{Quiet}
use Rattle.fits_tell.specs.declared.table_problem.TableProblem.{TableProblem}
use Rattle.fits_tell.proofs.ReportLemmas.{all_counted}
use Rattle.fits_cli.specs.NewErrors.{new_errors}
use Rattle.fits_cli.specs.NewTables.{is_new_table, new_tables}
use Rattle.fits_cli.specs.Reports.{new_error_count, new_lines, new_warning_count, read_reports, reports_of, HasMore, Reports}
use Rattle.fits_cli.specs.declared.reports.Reports.{Reports as TwoReports}
use Rattle.fits_cli.proofs.NewErrorLemmas.{more-new, more_counts, new-more, none_quiet}
use Rattle.fits_cli.proofs.NewTableLemmas as tables

-- a level that lists nothing has nothing new of tables
none_listed : (before after report : List TableProblem) → filter (is_new_table Quiet before after) report ≡ []
unfolding is_new_table
none_listed before after [] = refl
none_listed before after (it ∷ report) = none_listed before after report

-- so a report has no new one at it
pub tables_quiet : (before after : List TableProblem) → new_tables Quiet before after ≡ []
unfolding new_tables
tables_quiet before after = none_listed before after after

-- nor of anything
pub quiet_lines : (before after : Reports) → [] ≡ new_lines Quiet before after
quiet_lines before after = rw (none_quiet before.problems after.problems, tables_quiet before.tables after.tables) refl

-- no error is new
pub quiet_errors : (before after : Reports) → 0 ≡ new_error_count Quiet before after
quiet_errors before after = rw (none_quiet before.problems after.problems, tables_quiet before.tables after.tables) refl

-- nor is a warning
pub quiet_warnings : (before after : Reports) → 0 ≡ new_warning_count Quiet before after
quiet_warnings before after = rw (none_quiet before.problems after.problems, tables_quiet before.tables after.tables) refl

-- what is new counts
pub has_counts : (level : Level) (before after : Reports) → HasMore level before after → level ≡ Quiet → ⊥
has_counts level before after (inl more) is = more_counts level before.problems after.problems more is
has_counts level before after (inr more) is =
    let none : length (new_tables level before.tables after.tables) ≡ 0 = ap (λ l. length (new_tables l before.tables after.tables)) is ∙ ap length (tables_quiet before.tables after.tables) in
    absurd (omega (arith, more, none))

-- so many new ones there are
counts_are : (level : Level) (before after : Reports) → new_error_count level before after + new_warning_count level before after ≡ length (new_errors level before.problems after.problems) + length (new_tables level before.tables after.tables)
counts_are level before after = omega (arith, all_counted (new_errors level before.problems after.problems), tables.all_counted (new_tables level before.tables after.tables))

-- there are more where some are new
pub some_new : (level : Level) (before after : Reports) → 0 < new_error_count level before after + new_warning_count level before after → HasMore level before after
some_new level before after some =
    elim (cases_lt 0 (length (new_errors level before.problems after.problems))) [
      | inl errors ↦ inl (new-more level before.problems after.problems errors)
      | inr none ↦ inr (omega (arith, none, some, counts_are level before after))
    ]

-- and none where none is
pub none_new : (level : Level) (before : Reports) (are : Bool) (file : FileParts) → new_error_count level before (reports_of are file) + new_warning_count level before (reports_of are file) ≤ 0 → HasMore level before (reports_of are file) → ⊥
unfolding reports_of
none_new level before are file none (inl more) =
    absurd (omega (arith, none, counts_are level before (reports_of are file), more-new level before.problems (report_of file) (in_order file) more))
none_new level before are file none (inr more) = absurd (omega (arith, none, counts_are level before (reports_of are file), more))
