-- Which problems of a report are new, of those that count: what keeps `edit -c` from saving (own).
use Rattle.std.specs.Prelude.{◌≡◌, ℕ, ◌==◌, ◌&&◌, ◌||◌, nat_lt, Bool, not, true, List, ◌++◌, codes, count_by, get_or}
use Rattle.std.specs.List.{filter, flat_map, list_any}
use Rattle.fits_codes.specs.Code.{number}
use Rattle.fits_codes.specs.declared.code.Code.{Code}
use Rattle.fits_passing.specs.declared.problem.Problem.{Problem}
use Rattle.fits_tell.specs.Report.{lists, problem_line}
use Rattle.fits_tell.specs.declared.level.Level.{Level}

-- the problem is of this code
abbrev pub is_of_code : Code → Problem → Bool
is_of_code code it = number it.code == number code

-- how many problems of a report are
abbrev pub count_of : Code → List Problem → ℕ
count_of code report = count_by (is_of_code code) report

-- the code counts, and the report after has more problems of it than the one before
abbrev pub has_more : Level → List Problem → List Problem → Code → Bool
has_more level before after code = lists level code && nat_lt (count_of code before) (count_of code after)

-- there are more of some such code
abbrev pub HasMoreErrors : Level → List Problem → List Problem → Type 0
HasMoreErrors level before after = (code : Code) × (has_more level before after code ≡ true)

-- two problems say the same of the same place
abbrev pub is_same : Problem → Problem → Bool
is_same it other = (number it.code == number other.code) && ((it.hdu == other.hdu) && (it.place == other.place))

-- a problem stands in a report
abbrev pub stands_in : List Problem → Problem → Bool
stands_in report it = list_any (is_same it) report

-- a problem of the report after is new: there are more of its code, and it didn't stand in the report before
abbrev pub is_new : Level → List Problem → List Problem → Problem → Bool
is_new level before after it = has_more level before after it.code && not (stands_in before it)

-- the new ones of the problems that count, in the order of their report
unfoldable pub new_errors : Level → List Problem → List Problem → List Problem
new_errors level before after = filter (is_new level before after) after

-- `+CODE HDU PLACE TEXT`
unfoldable pub new_error_line : Problem → List ℕ
new_error_line it = codes "+" ++ problem_line it

-- the lines of new errors
abbrev pub new_error_lines : List Problem → List ℕ
new_error_lines errors = flat_map new_error_line errors

-- whether a problem stands before another in a report: by HDU, by place, by the code's number
abbrev pub is_listed_before : Problem → Problem → Bool
is_listed_before it other =
    nat_lt it.hdu other.hdu
    || ((it.hdu == other.hdu) && (nat_lt it.place other.place || ((it.place == other.place) && nat_lt (number it.code) (number other.code))))

-- numbers that say how many problems of a report are of each code, by the code's number
abbrev pub AreCounts : List Problem → List ℕ → Type 0
AreCounts report counts = (code : Code) → get_or counts (number code) 0 ≡ count_of code report
