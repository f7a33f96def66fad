-- What a field of a line is in JSON (own).
use Rattle.std.specs.Prelude.{ℕ, ◌^◌, ◌==◌, nat_lt, Bool, true, false, not, ◌&&◌, ℤ, pos, negsuc, List, [], ◌∷◌, ◌++◌, codes, drop, length, map, Option, Some, None, if◌then◌else◌}
use Rattle.std.specs.Char.{encode_utf8}
use Rattle.std.specs.List.{flat_map, slice_split}
use Rattle.std.specs.Str.{all_ascii_digits, bytes_eq}
use Rattle.std.specs.Str.Parse.{signed_digits_value, without_leading_sign}
use Rattle.serde_json.specs.Data.{Num, Data, null, boolean, number, string, array, no_items, Members, put}
use Rattle.serde_json.specs.Find.{of_integer}
use Rattle.serde_json.specs.View.{items_of}
use Rattle.fits_json.specs.Columns.{field_in}
use Rattle.fits_json.specs.declared.column.Column.{Column}
use Rattle.fits_json.specs.declared.column.Kind.{Kind}
use Rattle.fits_json.specs.declared.column.Kind.TheVariants.{Nothing, Lead, Null, True, False, Empty, Number, Numbers, Text, Through, Quoted, Rest}

-- bytes as text: each is the character of its number, so those from 128 on are U+0080 to U+00FF
abbrev pub characters : List ℕ → List ℕ
characters bytes = flat_map encode_utf8 bytes

-- what follows the opening quote of a string without its closing quote, and with each doubled quote once; it is inside or has just met a
-- quote
abbrev pub undoubled : Bool → List ℕ → List ℕ
undoubled inside [] = []
undoubled inside (byte ∷ bytes) =
    (if (byte == 39) && inside then [] else byte ∷ []) ++ undoubled (if byte == 39 then not inside else inside) bytes

-- a string in quotes without them
abbrev pub unquoted : List ℕ → List ℕ
unquoted text = undoubled true (drop 1 text)

-- an integer has 64 bits, with a sign or without
abbrev pub is_of_64_bits : ℤ → Bool
is_of_64_bits (pos n) = nat_lt n (2 ^ 64)
is_of_64_bits (negsuc n) = nat_lt n (2 ^ 63)

-- a text is some digits, perhaps after a sign
abbrev pub is_numeral_text : List ℕ → Bool
is_numeral_text text = nat_lt 0 (length (without_leading_sign text)) && all_ascii_digits (without_leading_sign text)

-- the integer that a text is, where it has 64 bits
abbrev pub integer_said : List ℕ → Option Num
integer_said text =
    if is_numeral_text text && is_of_64_bits (signed_digits_value 10 text) then Some (of_integer (signed_digits_value 10 text)) else None

-- a number, or the text where there is none
abbrev pub number_or : List ℕ → Option Num → Data
number_or text (Some it) = number it
number_or text None = string text

-- the integer that a word of a line is, where it has 64 bits, else the word; a hyphen is no number
abbrev pub number_data : List ℕ → Data
number_data word = if bytes_eq word (codes "-") then null else number_or (characters word) (integer_said (characters word))

-- words of a line that stand between bytes of this number; none in an empty one
abbrev pub words_between : ℕ → List ℕ → List (List ℕ)
words_between separator [] = []
words_between separator (byte ∷ bytes) = slice_split (λ it. it == separator) (byte ∷ bytes)

-- numbers of a line
abbrev pub numbers_data : ℕ → List ℕ → Data
numbers_data separator words = array (items_of (map number_data (words_between separator words)))

-- what a field is, by its kind and by what stands before it
abbrev pub data_by : Kind → List ℕ → List ℕ → Data
data_by Nothing lead field = null
data_by Lead lead field = string lead
data_by Null lead field = null
data_by True lead field = boolean true
data_by False lead field = boolean false
data_by Empty lead field = array no_items
data_by Number lead field = number_data field
data_by (Numbers separator) lead field = numbers_data separator field
data_by (Text stop) lead field = string (characters field)
data_by (Through last) lead field = string (characters field)
data_by Quoted lead field = string (characters (unquoted field))
data_by Rest lead field = string (characters field)

-- a field of this kind is told
abbrev pub is_told : Kind → Bool
is_told Nothing = false
is_told kind = true

-- members with the field of a column, if it is told
abbrev pub told_field : Column → List ℕ → Members → Members
told_field column field found = if is_told column.kind then put column.name.now (data_by column.kind column.lead.now field) found else found

-- members with the field of a column that stands at the front of a text
abbrev pub with_field : Column → List ℕ → Members → Members
with_field column text found = told_field column (field_in column text) found
