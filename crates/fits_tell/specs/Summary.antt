-- What `verify --summary` prints of a report: how many problems have each code (own).
use Rattle.std.specs.Prelude.{ℕ, zero, suc, ◌+◌, ◌==◌, Bool, List, [], ◌++◌, codes, count_by, Option, None, Some, if◌then◌else◌}
use Rattle.std.specs.Fmt.{decimal}
use Rattle.std.specs.List.{find}
use Rattle.fits_codes.specs.Code.{label as file_label, number as file_number, text as file_text}
use Rattle.fits_table.specs.TableCode.{label, number, text}
use Rattle.fits_tell.specs.Listed.{lists_it, report_closing_line}
use Rattle.fits_tell.specs.declared.level.Level.{Level}
use Rattle.fits_tell.specs.declared.listed.Listed.{Listed}
use Rattle.fits_tell.specs.declared.listed.Listed.TheVariants.{OfFile, OfTable}
use Rattle.fits_tell.specs.declared.listed.TheConstants.{LAST_NUMBER}

-- the number of the code of what a report lists
abbrev pub number_of : Listed → ℕ
number_of (OfFile it) = file_number it.code
number_of (OfTable it) = number it.code

-- how the code is printed
abbrev pub label_of : Listed → List ℕ
label_of (OfFile it) = file_label it.code
label_of (OfTable it) = label it.code

-- what a report says of it
abbrev pub code_text : Listed → List ℕ
code_text (OfFile it) = file_text it.code
code_text (OfTable it) = text it.code

-- it has the code of this number
abbrev pub has_number : ℕ → Listed → Bool
has_number number it = number_of it == number

-- how many have
abbrev pub count_of : ℕ → List Listed → ℕ
count_of number report = count_by (has_number number) report

-- `CODE COUNT TEXT`, by one of them
unfoldable pub count_line : Listed → ℕ → List ℕ
count_line it count = label_of it ++ (codes " " ++ (decimal count ++ (codes " " ++ (code_text it ++ codes "\n"))))

-- the same, where the level lists the code; nothing where none has it
abbrev pub code_line : Level → ℕ → Option Listed → List ℕ
code_line level count None = []
code_line level count (Some it) = if lists_it level it then count_line it count else []

-- the lines of the codes up to this number, in their order
unfoldable pub code_lines : Level → List Listed → ℕ → List ℕ
code_lines level report zero = []
code_lines level report (suc last) =
    code_lines level report last ++ code_line level (count_of (last + 1) report) (find (has_number (last + 1)) report)

-- a line for each code that was found, and the counts of all problems
abbrev pub summary_text : Level → List Listed → List ℕ
summary_text level report = code_lines level report LAST_NUMBER ++ report_closing_line report
