-- The line that tells a value and its comment (own).
use Rattle.std.specs.Prelude.{ℕ, List, [], ◌++◌, codes, Option, None, Some, if◌then◌else◌}
use Rattle.fits_value.specs.Spelling.{doubled}
use Rattle.fits_value.specs.declared.value.Value.{Value}
use Rattle.fits_value.specs.declared.value.Value.TheVariants.{Undefined, Logical, Integer, Real, Complex, Str}

-- a value's type and its text; a string stands in quotes, with each quote in it doubled (4.2.1.1)
abbrev pub value_text : Value → List ℕ
value_text Undefined = codes "undefined"
value_text (Logical flag) = if flag then codes "logical T" else codes "logical F"
value_text (Integer text) = codes "integer " ++ text
value_text (Real text) = codes "real " ++ text
value_text (Complex real imaginary) = codes "complex (" ++ real ++ codes ", " ++ imaginary ++ codes ")"
value_text (Str text) = codes "string '" ++ doubled text ++ codes "'"

-- a slash and the comment, where there is one; it may be empty
abbrev pub comment_text : Option (List ℕ) → List ℕ
comment_text None = []
comment_text (Some comment) = codes " /" ++ comment

-- both, and a line feed
abbrev pub value_line : Value → Option (List ℕ) → List ℕ
value_line value comment = value_text value ++ comment_text comment ++ codes "\n"
