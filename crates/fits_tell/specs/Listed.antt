-- What `verify` prints of a report, and the status that it comes to (own).
use Rattle.std.specs.Prelude.{ℕ, ◌==◌, Bool, true, false, not, List, [], ◌++◌, codes, count_by, length, if◌then◌else◌}
use Rattle.std.specs.Fmt.{decimal}
use Rattle.std.specs.List.{flat_map}
use Rattle.fits_codes.specs.Code.{is_error as is_file_error}
use Rattle.fits_table.specs.TableCode.{is_error, label, text}
use Rattle.fits_tell.specs.Report.{card_problem_line, counts_line}
use Rattle.fits_tell.specs.declared.level.Level.{Level}
use Rattle.fits_tell.specs.declared.level.Level.TheVariants.{All, Errors, Quiet}
use Rattle.fits_tell.specs.declared.listed.Listed.{Listed}
use Rattle.fits_tell.specs.declared.listed.Listed.TheVariants.{OfFile, OfTable}
use Rattle.fits_tell.specs.declared.table_problem.TableProblem.{TableProblem}

-- it is an error
abbrev pub is_listed_error : Listed → Bool
is_listed_error (OfFile it) = is_file_error it.code
is_listed_error (OfTable it) = is_error it.code

-- a level lists it
abbrev pub lists_it : Level → Listed → Bool
lists_it All it = true
lists_it Errors it = is_listed_error it
lists_it Quiet it = false

-- `CODE HDU 0 TEXT`, as a line
unfoldable pub table_line : TableProblem → List ℕ
table_line it = label it.code ++ (codes " " ++ (decimal it.hdu ++ (codes " 0 " ++ (text it.code ++ codes "\n"))))

-- the line of what a report lists, with the cards of these headers
abbrev pub report_line : List (List (List ℕ)) → Listed → List ℕ
report_line headers (OfFile it) = card_problem_line headers it
report_line headers (OfTable it) = table_line it

-- the same, where the level lists it
abbrev pub report_line_at : Level → List (List (List ℕ)) → Listed → List ℕ
report_line_at level headers it = if lists_it level it then report_line headers it else []

-- how many errors there are
abbrev pub listed_errors : List Listed → ℕ
listed_errors report = count_by is_listed_error report

-- and how many warnings
abbrev pub listed_warnings : List Listed → ℕ
listed_warnings report = count_by (λ it. not (is_listed_error it)) report

-- the closing line: it counts all problems, whatever is listed
abbrev pub report_closing_line : List Listed → List ℕ
report_closing_line report = counts_line (listed_errors report) (listed_warnings report)

-- the report as a level prints it, with the cards of these headers: of none, without cards
abbrev pub listed_text : Level → List (List (List ℕ)) → List Listed → List ℕ
listed_text level headers report = flat_map (report_line_at level headers) report ++ report_closing_line report

-- how many problems decide the status: errors, and where it is strict warnings too
abbrev pub decisive : Bool → List Listed → ℕ
decisive strict report = if strict then length report else listed_errors report

-- 1 where there is one, else 0
abbrev pub status_of_report : Bool → List Listed → ℕ
status_of_report strict report = if decisive strict report == 0 then 0 else 1
