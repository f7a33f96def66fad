-- What is wrong with the tables of a file, and what of it is new: it keeps `edit -c` from saving where tables are kept (own).
use Rattle.std.specs.Prelude.{ℕ, ◌+◌, ◌==◌, ◌&&◌, nat_lt, Bool, true, false, not, List, [], ◌∷◌, ◌++◌, codes, count_by, map}
use Rattle.std.specs.List.{filter, flat_map, list_any}
use Rattle.fits_passing.specs.File.{FileParts, is_primary_hdu}
use Rattle.fits_passing.specs.Headers.{cards_of}
use Rattle.fits_table.specs.Judged.{table_codes}
use Rattle.fits_table.specs.TableCode.{is_error, number}
use Rattle.fits_table.specs.declared.table_code.TableCode.{TableCode}
use Rattle.fits_tell.specs.Listed.{lists_it, table_line}
use Rattle.fits_tell.specs.declared.level.Level.{Level}
use Rattle.fits_tell.specs.declared.listed.Listed.TheVariants.{OfTable}
use Rattle.fits_tell.specs.declared.table_problem.TableProblem.{TableProblem}

-- a code of the table that HDU h is
abbrev pub problem_in : ℕ → TableCode → TableProblem
problem_in h code = record { hdu = h; code = code }

-- all of them
abbrev pub problems_in : ℕ → List TableCode → List TableProblem
problems_in h codes = map (problem_in h) codes

-- those of each header, the first being that of HDU h
abbrev pub problems_from : ℕ → List (List (List ℕ)) → List TableProblem
problems_from h [] = []
problems_from h (cards ∷ headers) = problems_in h (table_codes (is_primary_hdu h) cards) ++ problems_from (h + 1) headers

-- so many HDUs are judged
abbrev pub judged_count : Bool → ℕ → ℕ
judged_count true hdus = hdus
judged_count false hdus = 0

-- those of a file, where its tables are judged
unfoldable pub table_problems : Bool → FileParts → List TableProblem
table_problems true file = problems_from 1 (cards_of file.hdus)
table_problems false file = []

-- the problem is of this code
abbrev pub is_of_table_code : TableCode → TableProblem → Bool
is_of_table_code code it = number it.code == number code

-- how many problems of a report are
abbrev pub table_count : TableCode → List TableProblem → ℕ
table_count code report = count_by (is_of_table_code code) report

-- two problems say the same of the same HDU
abbrev pub is_same_table : TableProblem → TableProblem → Bool
is_same_table it other = (number it.code == number other.code) && (it.hdu == other.hdu)

-- a problem of the report after is new: its code counts, there are more of it, and it didn't stand in the report before
unfoldable pub is_new_table : Level → List TableProblem → List TableProblem → TableProblem → Bool
is_new_table level before after it =
    lists_it level (OfTable it) && (nat_lt (table_count it.code before) (table_count it.code after) && not (list_any (is_same_table it) before))

-- the new ones, in the order of their report
unfoldable pub new_tables : Level → List TableProblem → List TableProblem → List TableProblem
new_tables level before after = filter (is_new_table level before after) after

-- how many are errors
abbrev pub table_errors : List TableProblem → ℕ
table_errors report = count_by (λ it. is_error it.code) report

-- and how many warnings
abbrev pub table_warnings : List TableProblem → ℕ
table_warnings report = count_by (λ it. not (is_error it.code)) report

-- `+CODE HDU 0 TEXT`
unfoldable pub new_table_line : TableProblem → List ℕ
new_table_line it = codes "+" ++ table_line it

-- the lines of new ones
abbrev pub new_table_lines : List TableProblem → List ℕ
new_table_lines report = flat_map new_table_line report
