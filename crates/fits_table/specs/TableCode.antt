-- The codes of a report of tables, each by its meaning: a number, a label and a text (own).
use Rattle.std.specs.Prelude.{ℕ, Bool, true, false, List, ◌++◌, codes, if◌then◌else◌}
use Rattle.fits_codes.specs.Code.{two_digits}
use Rattle.fits_table.specs.declared.table_code.TableCode.{TableCode}
use Rattle.fits_table.specs.declared.table_code.TableCode.TheVariants.{BadFieldCount, NoForm, NotARow, HeapOutside, KeywordMisfit, DuplicateName, PastFields, OddName}

-- the number of a code: a report lists the codes of a place by it
abbrev pub number : TableCode → ℕ
number BadFieldCount = 27
number NoForm = 28
number NotARow = 29
number HeapOutside = 30
number KeywordMisfit = 31
number DuplicateName = 32
number PastFields = 33
number OddName = 34

-- the code is an error; the others are warnings
abbrev pub is_error : TableCode → Bool
is_error DuplicateName = false
is_error PastFields = false
is_error OddName = false
is_error code = true

-- how a report prints a code: E and its number for an error, W for a warning
abbrev pub label : TableCode → List ℕ
label code = (if is_error code then codes "E" else codes "W") ++ two_digits (number code)

-- what a report says of a code
abbrev pub text : TableCode → List ℕ
text BadFieldCount = codes "TFIELDS missing, out of place or out of range"
text NoForm = codes "column without a readable TFORM or TBCOL"
text NotARow = codes "columns don't make up the row"
text HeapOutside = codes "heap not within the data"
text KeywordMisfit = codes "keyword that its column can't have"
text DuplicateName = codes "two columns of one name"
text PastFields = codes "column keyword past TFIELDS"
text OddName = codes "column name with other characters than recommended"
