-- What the report of a file prints, also with the card of each problem (own; FITS Standard 4.0, section 4.1).
use Rattle.std.specs.Prelude.{ℕ, ◌==◌, Bool, true, false, not, List, [], ◌++◌, codes, count_by, length, Option, None, Some, option_and_then, if◌then◌else◌, zero, suc}
use Rattle.std.specs.Fmt.{decimal}
use Rattle.std.specs.List.{flat_map, slice_get}
use Rattle.fits_codes.specs.Code.{is_error, label, text}
use Rattle.fits_codes.specs.declared.code.Code.{Code}
use Rattle.fits_passing.specs.declared.problem.Problem.{Problem}
use Rattle.fits_tell.specs.Cards.{shown_text}
use Rattle.fits_tell.specs.declared.level.Level.{Level}
use Rattle.fits_tell.specs.declared.level.Level.TheVariants.{All, Errors, Quiet}

-- a level lists the problems of this code
abbrev pub lists : Level → Code → Bool
lists All code = true
lists Errors code = is_error code
lists Quiet code = false

-- `CODE HDU PLACE TEXT`
unfoldable pub problem_text : Problem → List ℕ
problem_text it = label it.code ++ (codes " " ++ (decimal it.hdu ++ (codes " " ++ (decimal it.place ++ (codes " " ++ text it.code)))))

-- the same as a line
abbrev pub problem_line : Problem → List ℕ
problem_line it = problem_text it ++ codes "\n"

-- the card at a place of a header, from 1; place 0, which is the HDU as a whole, has none
abbrev pub card_in : ℕ → List (List ℕ) → Option (List ℕ)
card_in zero cards = None
card_in (suc index) cards = slice_get cards index

-- the card at a place of HDU h, from 1; what follows the last HDU has none
abbrev pub card_of : List (List (List ℕ)) → ℕ → ℕ → Option (List ℕ)
card_of headers zero place = None
card_of headers (suc index) place = option_and_then (card_in place) (slice_get headers index)

-- a colon and the card as it is shown, or nothing where there is none
abbrev pub after_colon : Option (List ℕ) → List ℕ
after_colon None = []
after_colon (Some card) = codes ": " ++ shown_text card

-- `CODE HDU PLACE TEXT: CARD`, and where these headers have no such card `CODE HDU PLACE TEXT`
unfoldable pub card_problem_line : List (List (List ℕ)) → Problem → List ℕ
card_problem_line headers it = problem_text it ++ (after_colon (card_of headers it.hdu it.place) ++ codes "\n")

-- the same, where the level lists the problem
abbrev pub listed_line : Level → List (List (List ℕ)) → Problem → List ℕ
listed_line level headers it = if lists level it.code then card_problem_line headers it else []

-- the lines of the problems that a level lists
abbrev pub problem_lines : Level → List (List (List ℕ)) → List Problem → List ℕ
problem_lines level headers report = flat_map (listed_line level headers) report

-- how many errors there are
abbrev pub errors_in : List Problem → ℕ
errors_in report = count_by (λ it. is_error it.code) report

-- and how many warnings
abbrev pub warnings_in : List Problem → ℕ
warnings_in report = count_by (λ it. not (is_error it.code)) report

-- `errors N warnings M`
unfoldable pub counts_line : ℕ → ℕ → List ℕ
counts_line errors warnings = codes "errors " ++ (decimal errors ++ (codes " warnings " ++ (decimal warnings ++ codes "\n")))

-- the closing line: it counts all problems, whatever is listed
abbrev pub closing_line : List Problem → List ℕ
closing_line report = counts_line (errors_in report) (warnings_in report)

-- the report as a level prints it, with the cards of these headers: of none, without cards
abbrev pub report_text : Level → List (List (List ℕ)) → List Problem → List ℕ
report_text level headers report = problem_lines level headers report ++ closing_line report
