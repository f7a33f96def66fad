-- The cards that a value and a comment are written to (FITS Standard 4.0, sections 4.1.2.3 and 4.2; layout own).
use Rattle.std.specs.Prelude.{◌≡◌, ℕ, zero, suc, ◌+◌, ◌-◌, ◌==◌, nat_le, nat_lt, Bool, true, false, not, ◌&&◌, ◌||◌, List, [], ◌∷◌, ◌++◌, length, take, drop, replicate, codes, All, Option, None, Some, IfSome, Result, Ok, Err, is_ok, if◌then◌else◌}
use Rattle.std.specs.List.{list_all, suffix_len}
use Rattle.std.specs.Result.{result_and}
use Rattle.std.specs.Str.{bytes_eq}
use Rattle.fits_card.specs.Card.{IsText, is_text, card_of_text}
use Rattle.fits_value.specs.Number.{IsInteger, IsReal, IsNumber}
use Rattle.fits_value.specs.Spelling.{is_space, doubled}
use Rattle.fits_value.specs.Scan.{number_of}
use Rattle.fits_value.specs.Text.{normal_form}
use Rattle.fits_value.specs.LongString.{EndsInAmpersand}
use Rattle.fits_value.specs.Says.{ends_in_ampersand}
use Rattle.fits_value.specs.declared.reading.ValueKind.{ValueKind}
use Rattle.fits_value.specs.declared.reading.ValueKind.TheVariants as kind
use Rattle.fits_value.specs.declared.unwritable.Unwritable.{Unwritable}
use Rattle.fits_value.specs.declared.unwritable.Unwritable.TheVariants.{NotNumber, StringBytes, StringSpaces, StringAmpersand, CommentBytes, CommentSpaces}
use Rattle.fits_value.specs.declared.value.Value.{Value}
use Rattle.fits_value.specs.declared.value.Value.TheVariants.{Undefined, Logical, Integer, Real, Complex, Str}

-- right-justified in bytes 11 to 30, or from byte 11 on where it is longer (4.2)
abbrev pub justified : List ℕ → List ℕ
justified spelling = replicate (20 - length spelling) 32 ++ spelling

-- ' characters with each quote doubled ' (4.2.1.1)
abbrev pub quoted : List ℕ → List ℕ
quoted text = codes "'" ++ doubled text ++ codes "'"

-- with spaces up to 8 bytes between the quotes; the null string stays empty (4.2.1.1)
abbrev pub filled : List ℕ → List ℕ
filled text =
    if nat_lt 0 (length text) then text ++ replicate (8 - length (doubled text)) 32 else []

-- a value that one card holds, as its field has it (4.2.1 to 4.2.6)
abbrev pub value_field : Value → List ℕ
value_field Undefined = justified []
value_field (Logical flag) = justified (if flag then codes "T" else codes "F")
value_field (Integer text) = justified text
value_field (Real text) = justified text
value_field (Complex real imaginary) = justified (codes "(" ++ real ++ (codes ", " ++ imaginary) ++ codes ")")
value_field (Str text) = quoted (filled text)

-- with its comment: a slash in byte 32, or two bytes after a value that goes past byte 30 (4.1.2.3)
abbrev pub commented : List ℕ → Option (List ℕ) → List ℕ
commented line None = line
commented line (Some comment) = line ++ replicate (1 + (30 - length line)) 32 ++ (codes "/" ++ comment)

-- the card of these ten bytes, this value and this comment; longer than 80 bytes where they don't fit
abbrev pub card_of : List ℕ → List ℕ → Option (List ℕ) → List ℕ
card_of lead value comment = card_of_text (commented (lead ++ value) comment)

-- how many bytes a character takes between quotes (4.2.1.1)
abbrev pub width : ℕ → ℕ
width character = if character == 39 then 2 else 1

-- how many of the first characters so many bytes between quotes hold
abbrev pub fitting : ℕ → List ℕ → ℕ
fitting room [] = 0
fitting room (c ∷ cs) = if nat_le (width c) room then 1 + fitting (room - width c) cs else 0

-- the first ten bytes of a card with a value (4.1.2.2)
abbrev pub value_lead : List ℕ → List ℕ
value_lead name = name ++ codes "= "

-- the first ten bytes of a card that continues a string (4.2.1.2)
abbrev pub continue_lead : List ℕ
continue_lead = codes "CONTINUE  "

-- a string over cards, at most so many and one more: what 68 bytes hold ends it, with the comment; of a longer
-- one the first card has what 67 bytes hold and an ampersand, and CONTINUE cards have the rest (4.2.1.2)
abbrev pub cards_of_string : List ℕ → ℕ → List ℕ → Option (List ℕ) → List (List ℕ)
cards_of_string lead zero text comment = card_of lead (quoted text) comment ∷ []
cards_of_string lead (suc more) text comment =
    let n = fitting 67 text in
    if nat_le (length (doubled text)) 68
    then card_of lead (quoted text) comment ∷ []
    else card_of lead (quoted (take n text ++ codes "&")) None
    ∷ cards_of_string continue_lead more (drop n text) comment

-- a string that 68 bytes between quotes don't hold
abbrev pub is_long : Value → Bool
is_long (Str text) = nat_lt 68 (length (doubled text))
is_long value = false

-- the characters of a string
abbrev pub characters_of : Value → List ℕ
characters_of (Str text) = text
characters_of value = []

-- the cards of a value and a comment under a name: a long string over cards, any other value on one (4.2.1)
abbrev pub cards_of : List ℕ → Value → Option (List ℕ) → List (List ℕ)
cards_of name value comment =
    if is_long value
    then cards_of_string (value_lead name) (length (characters_of value)) (characters_of value) comment
    else card_of (value_lead name) (value_field value) comment ∷ []

-- a value that can be written: numbers as they are spelled, text in normal form that ends in no ampersand
abbrev pub IsWritableValue : Value → Type 0
IsWritableValue (Integer text) = IsInteger text
IsWritableValue (Real text) = IsReal text
IsWritableValue (Complex real imaginary) = IsNumber real × IsNumber imaginary
IsWritableValue (Str text) = IsText text × (normal_form text ≡ text) × (EndsInAmpersand text → ⊥)
IsWritableValue value = Unit {0}

-- a comment that can be written: text that ends in no space
abbrev pub IsWritableComment : List ℕ → Type 0
IsWritableComment comment = IsText comment × (suffix_len is_space comment ≡ 0)

-- a value and a comment that can be written and fit their cards
pub record IsWritable (name : List ℕ) (value : Value) (comment : Option (List ℕ)) : Type 0 where
  pub is_value : IsWritableValue value
  pub is_comment : IfSome comment IsWritableComment
  pub fits : All (λ card. length card ≡ 80) (cards_of name value comment)

-- the kind of a number that ends where the text does
abbrev pub whole_kind : ℕ → Option (ValueKind × ℕ) → Option ValueKind
whole_kind size None = None
whole_kind size (Some number) = if number.1 == size then Some number.0 else None

-- the kind of a text that is a number (4.2.3, 4.2.4)
unfoldable pub number_kind : List ℕ → Option ValueKind
number_kind text = whole_kind (length text) (number_of text)

-- the kind is that of integers, and that of reals
abbrev pub is_integer_kind : Option ValueKind → Bool
is_integer_kind (Some kind.Integer) = true
is_integer_kind other = false

abbrev pub is_real_kind : Option ValueKind → Bool
is_real_kind (Some kind.Real) = true
is_real_kind other = false

-- the text is an integer, or a real, or one of both (4.2.3, 4.2.4)
abbrev pub is_integer : List ℕ → Bool
is_integer text = is_integer_kind (number_kind text)

abbrev pub is_real : List ℕ → Bool
is_real text = is_real_kind (number_kind text)

abbrev pub is_number : List ℕ → Bool
is_number text = is_integer text || is_real text

-- where a test fails, this is why (own)
abbrev pub unless : Bool → Unwritable → Result (Unit {0}) Unwritable
unless test why = if test then Ok tt else Err why

-- characters of a string can be written, or the first that is wrong: bytes that aren't text, spaces at the end, an ampersand there
unfoldable pub writable_string : List ℕ → Result (Unit {0}) Unwritable
writable_string text =
    result_and
    (result_and (unless (is_text text) StringBytes) (unless (bytes_eq (normal_form text) text) StringSpaces))
    (unless (not (ends_in_ampersand text)) StringAmpersand)

-- a value can be written, or why not
unfoldable pub writable_value : Value → Result (Unit {0}) Unwritable
writable_value Undefined = Ok tt
writable_value (Logical flag) = Ok tt
writable_value (Integer text) = unless (is_integer text) NotNumber
writable_value (Real text) = unless (is_real text) NotNumber
writable_value (Complex real imaginary) = unless (is_number real && is_number imaginary) NotNumber
writable_value (Str text) = writable_string text

-- a comment can be, or the first that is wrong: bytes that aren't text, spaces at the end
unfoldable pub writable_comment : Option (List ℕ) → Result (Unit {0}) Unwritable
writable_comment None = Ok tt
writable_comment (Some comment) =
    result_and (unless (is_text comment) CommentBytes) (unless (suffix_len is_space comment == 0) CommentSpaces)

-- both can be, where they fit their cards, or the first fault: of the value, of the comment
abbrev pub writable_parts : Value → Option (List ℕ) → Result (Unit {0}) Unwritable
writable_parts value comment = result_and (writable_value value) (writable_comment comment)

-- each of these cards has 80 bytes
abbrev pub all_fit : List (List ℕ) → Bool
all_fit cards = list_all (λ card. length card == 80) cards

-- a value and a comment can be written and fit their cards
unfoldable pub is_writable : List ℕ → Value → Option (List ℕ) → Bool
is_writable name value comment =
    is_ok (writable_parts value comment) && all_fit (cards_of name value comment)

-- the cards that a value and a comment are written to, where they can be
unfoldable pub write_says : List ℕ → Value → Option (List ℕ) → Option (List (List ℕ))
write_says name value comment =
    if is_writable name value comment then Some (cards_of name value comment) else None
