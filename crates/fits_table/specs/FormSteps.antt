-- The same as functions, step by step: the law of `forms_are_read_exactly` ties them to the relation, which is the definition (own).
use Rattle.std.specs.Prelude.{ℕ, ◌==◌, nat_lt, nat_le, List, [], ◌∷◌, Option, None, Some, option_and_then, if◌then◌else◌}
use Rattle.std.specs.List.{take_while}
use Rattle.std.specs.Option.{option_map}
use Rattle.fits_value.specs.Characters.{is_digit}
use Rattle.fits_value.specs.NumberSteps.{after_digits}
use Rattle.fits_table.specs.Element.{element_of}
use Rattle.fits_table.specs.Format.{format_of}
use Rattle.fits_table.specs.Numeral.{numeral}
use Rattle.fits_table.specs.declared.descriptor.Descriptor.{Descriptor}
use Rattle.fits_table.specs.declared.descriptor.Descriptor.TheVariants.{Narrow, Wide}
use Rattle.fits_table.specs.declared.form.Form.{Form}
use Rattle.fits_table.specs.declared.form.Form.TheVariants.{Field, Elements, Array}
use Rattle.fits_table.specs.declared.format.Format.{Format}
use Rattle.fits_table.specs.declared.format.Format.TheVariants.{Text, Whole}
use Rattle.fits_table.specs.declared.table_kind.TableKind.{TableKind}
use Rattle.fits_table.specs.declared.table_kind.TableKind.TheVariants.{Ascii, Binary}

-- no decimals, where nothing follows
abbrev pub no_decimals : List ℕ → Option ℕ
no_decimals [] = Some 0
no_decimals (byte ∷ rest) = None

-- those after a point
abbrev pub point_decimals : List ℕ → Option ℕ
point_decimals [] = None
point_decimals (byte ∷ rest) = if byte == 46 then numeral rest else None

-- the decimals of what follows a width
abbrev pub decimals_of : Format → List ℕ → Option ℕ
decimals_of Text rest = no_decimals rest
decimals_of Whole rest = no_decimals rest
decimals_of format rest = point_decimals rest

-- the field, where it has room for its decimals
abbrev pub roomy : Format → ℕ → ℕ → Option Form
roomy format width decimals = if nat_lt decimals width then Some (Field format width decimals) else None

-- the field of a format, by what follows its letter
abbrev pub field_of : Format → List ℕ → Option Form
field_of format text =
    option_and_then (λ width. option_and_then (roomy format width) (decimals_of format (after_digits text))) (numeral (take_while is_digit text))

-- the form of a column of an ASCII table
unfoldable pub ascii_form : List ℕ → Option Form
ascii_form [] = None
ascii_form (letter ∷ text) = option_and_then (λ format. field_of format text) (format_of letter)

-- the count that digits say
abbrev pub count_of : List ℕ → Option ℕ
count_of [] = Some 1
count_of (digit ∷ digits) = numeral (digit ∷ digits)

-- an array, by what follows the descriptor's letter
abbrev pub array_of : ℕ → Descriptor → List ℕ → Option Form
array_of count descriptor [] = None
array_of count descriptor (letter ∷ additional) =
    if nat_le count 1 then option_map (λ element. Array count descriptor element) (element_of letter) else None

-- the form of a count, by what follows it
abbrev pub counted_form : ℕ → List ℕ → Option Form
counted_form count [] = None
counted_form count (letter ∷ rest) =
    if letter == 80 then array_of count Narrow rest
    else if letter == 81 then array_of count Wide rest
    else option_map (λ element. Elements count element) (element_of letter)

-- the form of a column of a binary table
unfoldable pub binary_form : List ℕ → Option Form
binary_form text = option_and_then (λ count. counted_form count (after_digits text)) (count_of (take_while is_digit text))

-- the form that TFORMn of a table of this kind says
abbrev pub form_of : TableKind → List ℕ → Option Form
form_of Ascii text = ascii_form text
form_of Binary text = binary_form text
