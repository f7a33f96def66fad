-- The report of a file, with what is wrong with its tables or without (own; FITS Standard 4.0, sections 7.2 and 7.3).
use Rattle.std.specs.Prelude.{ℕ, ◌+◌, ◌==◌, ◌||◌, ◌&&◌, nat_lt, Bool, true, false, List, [], ◌∷◌, ◌++◌, drop, map}
use Rattle.std.specs.List.{prefix_len, take_while}
use Rattle.fits_passing.specs.File.{FileParts, is_primary_hdu}
use Rattle.fits_passing.specs.Headers.{cards_of}
use Rattle.fits_passing.specs.Report.{report_of}
use Rattle.fits_passing.specs.declared.problem.Problem.{Problem}
use Rattle.fits_table.specs.Judged.{table_codes}
use Rattle.fits_table.specs.declared.table_code.TableCode.{TableCode}
use Rattle.fits_tell.specs.declared.listed.Listed.{Listed}
use Rattle.fits_tell.specs.declared.listed.Listed.TheVariants.{OfFile, OfTable}
use Rattle.fits_tell.specs.declared.table_problem.TableProblem.{TableProblem}

-- a code of the table that HDU h is
abbrev pub of_table : ℕ → TableCode → Listed
of_table h code = OfTable (record { hdu = h; code = code })

-- a problem is listed before those of the table that HDU h is: it is in an earlier HDU, or of this one as a whole
abbrev pub is_before_table : ℕ → Problem → Bool
is_before_table h it = nat_lt it.hdu h || ((it.hdu == h) && (it.place == 0))

-- the first of a report, as far as they are
abbrev pub before_table : ℕ → List Problem → List Problem
before_table h report = take_while (is_before_table h) report

-- and those from the first on that isn't
abbrev pub after_table : ℕ → List Problem → List Problem
after_table h report = drop (prefix_len (is_before_table h) report) report

-- a report with the codes of these headers' tables put in, that of the first header being HDU h
abbrev pub with_tables : ℕ → List (List (List ℕ)) → List Problem → List Listed
with_tables h [] report = map OfFile report
with_tables h (cards ∷ headers) report =
    map OfFile (before_table h report) ++ (map (of_table h) (table_codes (is_primary_hdu h) cards) ++ with_tables (h + 1) headers (after_table h report))

-- the report with tables: by HDU, by place, by the code's number
unfoldable pub table_report_of : FileParts → List Listed
table_report_of file = with_tables 1 (cards_of file.hdus) (report_of file)

-- the report with tables, or without them
abbrev pub listed_report : Bool → FileParts → List Listed
listed_report true file = table_report_of file
listed_report false file = map OfFile (report_of file)

-- the same of problems and the headers that were read: without tables none is judged
abbrev pub listed_by : Bool → List (List (List ℕ)) → List Problem → List Listed
listed_by true headers report = with_tables 1 headers report
listed_by false headers report = map OfFile report
