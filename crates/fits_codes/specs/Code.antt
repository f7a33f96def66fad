-- The codes of a report, each by its meaning: a number, a label and a text (own).
use Rattle.std.specs.Prelude.{ℕ, ◌+◌, ◌/◌, ◌%◌, ◌==◌, Bool, true, false, List, [], ◌∷◌, ◌++◌, codes, if◌then◌else◌}
use Rattle.std.specs.List.{list_any}
use Rattle.fits_codes.specs.declared.code.Code.{Code}
use Rattle.fits_codes.specs.declared.code.Code.TheVariants.{NotText, BadName, UnreadableValue, UndefinedValue, WrongType, NotFixedFormat, MandatoryRepeated, KeywordRepeated, StrayContinue, AmpersandNotContinued, NoSpaceAfterEquals, BadDate, DeprecatedKeyword, EndNotBlank, FillNotSpaces, CountsOutOfPlace, ImageCountsNotPlain, WrongKindOfHdu, SimpleIsFalse, BlankWithReals, BlankOutOfRange, BadDataFill, WrongDatasum, WrongChecksum, DuplicateExtension, TrailingBytes}

-- the number of a code: a report lists the codes of a place by it
abbrev pub number : Code → ℕ
number NotText = 1
number BadName = 2
number UnreadableValue = 3
number UndefinedValue = 4
number WrongType = 5
number NotFixedFormat = 6
number MandatoryRepeated = 7
number KeywordRepeated = 8
number StrayContinue = 9
number AmpersandNotContinued = 10
number NoSpaceAfterEquals = 11
number BadDate = 12
number DeprecatedKeyword = 13
number EndNotBlank = 14
number FillNotSpaces = 15
number CountsOutOfPlace = 16
number ImageCountsNotPlain = 17
number WrongKindOfHdu = 18
number SimpleIsFalse = 19
number BlankWithReals = 20
number BlankOutOfRange = 21
number BadDataFill = 22
number WrongDatasum = 23
number WrongChecksum = 24
number DuplicateExtension = 25
number TrailingBytes = 26

-- the code is an error; the others are warnings
abbrev pub is_error : Code → Bool
is_error UndefinedValue = false
is_error KeywordRepeated = false
is_error StrayContinue = false
is_error AmpersandNotContinued = false
is_error NoSpaceAfterEquals = false
is_error DeprecatedKeyword = false
is_error SimpleIsFalse = false
is_error BlankOutOfRange = false
is_error WrongDatasum = false
is_error WrongChecksum = false
is_error DuplicateExtension = false
is_error TrailingBytes = false
is_error code = true

-- a number below a hundred in two digits
abbrev pub two_digits : ℕ → List ℕ
two_digits count = (48 + count / 10) ∷ (48 + count % 10) ∷ []

-- how a report prints a code: E and its number for an error, W for a warning
abbrev pub label : Code → List ℕ
label code = (if is_error code then codes "E" else codes "W") ++ two_digits (number code)

-- what a report says of a code
abbrev pub text : Code → List ℕ
text NotText = codes "byte outside ASCII text"
text BadName = codes "bad keyword name"
text UnreadableValue = codes "unreadable value"
text UndefinedValue = codes "undefined value"
text WrongType = codes "value of the wrong type"
text NotFixedFormat = codes "mandatory card not in fixed format"
text MandatoryRepeated = codes "mandatory keyword repeated"
text KeywordRepeated = codes "keyword repeated"
text StrayContinue = codes "CONTINUE without an open string"
text AmpersandNotContinued = codes "ampersand not continued"
text NoSpaceAfterEquals = codes "no space after the equals sign"
text BadDate = codes "bad date"
text DeprecatedKeyword = codes "deprecated keyword"
text EndNotBlank = codes "END card not blank"
text FillNotSpaces = codes "header fill not spaces"
text CountsOutOfPlace = codes "PCOUNT or GCOUNT out of place"
text ImageCountsNotPlain = codes "IMAGE counts are not 0 and 1"
text WrongKindOfHdu = codes "SIMPLE or XTENSION in the wrong kind of HDU"
text SimpleIsFalse = codes "SIMPLE is F"
text BlankWithReals = codes "BLANK with real pixels"
text BlankOutOfRange = codes "BLANK out of range"
text BadDataFill = codes "bad data fill"
text WrongDatasum = codes "DATASUM is wrong"
text WrongChecksum = codes "CHECKSUM is wrong"
text DuplicateExtension = codes "two extensions of one type, name and version"
text TrailingBytes = codes "bytes after the last HDU"

-- the code is among these
unfoldable pub is_among : List Code → Code → Bool
is_among found code = list_any (λ other. number other == number code) found
