-- The two reports that keep `edit -c` from saving: of a file, and of its tables where they are kept (own).
use Rattle.std.specs.Prelude.{◌≡◌, ◌⊎◌, ℕ, ◌+◌, ◌<◌, Bool, List, ◌++◌, length}
use Rattle.fits_passing.specs.File.{FileParts, IsFileOf}
use Rattle.fits_passing.specs.Report.{report_of}
use Rattle.fits_passing.specs.declared.problem.Problem.{Problem}
use Rattle.fits_tell.specs.Report.{errors_in, warnings_in}
use Rattle.fits_tell.specs.declared.level.Level.{Level}
use Rattle.fits_tell.specs.declared.table_problem.TableProblem.{TableProblem}
use Rattle.fits_cli.specs.NewErrors.{new_error_lines, new_errors, HasMoreErrors}
use Rattle.fits_cli.specs.NewTables.{new_table_lines, new_tables, table_errors, table_problems, table_warnings}
use Rattle.fits_cli.specs.declared.reports.Reports.{Reports as TwoReports}

-- what is wrong with a file, and with its tables
pub record Reports : Type 0 where
  pub problems : List Problem
  pub tables : List TableProblem

-- that of a file whose tables are judged or not
unfoldable pub reports_of : Bool → FileParts → Reports
reports_of tables file = record { problems = report_of file; tables = table_problems tables file }

-- the bytes are a file, and these are its reports
pub record AreReportsOf (tables : Bool) (reports : Reports) (bytes : List ℕ) : Type 0 where
  pub file : FileParts
  pub opened : IsFileOf bytes file
  pub all : reports ≡ reports_of tables file

-- two reports that were made
abbrev pub read_reports : TwoReports → Reports
read_reports it = record { problems = it.problems.items; tables = it.tables.items }

-- there are more problems of a code that counts, or a table has a new one
abbrev pub HasMore : Level → Reports → Reports → Type 0
HasMore level before after = HasMoreErrors level before.problems after.problems ⊎ (0 < length (new_tables level before.tables after.tables))

-- the lines of the new ones: those of tables come last
abbrev pub new_lines : Level → Reports → Reports → List ℕ
new_lines level before after =
    new_error_lines (new_errors level before.problems after.problems) ++ new_table_lines (new_tables level before.tables after.tables)

-- how many of them are errors
abbrev pub new_error_count : Level → Reports → Reports → ℕ
new_error_count level before after = errors_in (new_errors level before.problems after.problems) + table_errors (new_tables level before.tables after.tables)

-- and how many warnings
abbrev pub new_warning_count : Level → Reports → Reports → ℕ
new_warning_count level before after =
    warnings_in (new_errors level before.problems after.problems) + table_warnings (new_tables level before.tables after.tables)
