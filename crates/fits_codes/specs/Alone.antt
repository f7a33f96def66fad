-- What is wrong with a card alone, whatever stands round it: one fact for each code.
use Rattle.std.specs.Prelude.{ℕ, ◌==◌, Bool, true, false, ◌&&◌, not, is_none, List, [], ◌∷◌, slice_index, Option, Some}
use Rattle.std.specs.List.{filter}
use Rattle.std.specs.Option.{option_map, option_map_or}
use Rattle.fits_card.specs.Card.{keyword_name, has_value, is_text}
use Rattle.fits_card.specs.Name.{is_spelled}
use Rattle.fits_value.specs.Value.{kind_of}
use Rattle.fits_value.specs.declared.reading.ValueKind.{ValueKind}
use Rattle.fits_value.specs.declared.reading.ValueKind.TheVariants.{Undefined}
use Rattle.fits_rules.specs.Reads.{value_said, string_said}
use Rattle.fits_codes.specs.Date.{is_date, is_judged}
use Rattle.fits_codes.specs.Keywords.{is_one_of, keyword_type, suits, commentary_names, date_keywords, deprecated_keywords}
use Rattle.fits_codes.specs.declared.code.Code.{Code}
use Rattle.fits_codes.specs.declared.code.Code.TheVariants.{NotText, BadName, UnreadableValue, UndefinedValue, WrongType, NoSpaceAfterEquals, BadDate, DeprecatedKeyword}

-- the type of the value that a card says: none where it has no value field, or one that can't be read
unfoldable pub kind_said : List ℕ → Option ValueKind
kind_said card = option_map kind_of (value_said card)

-- E01: a byte is no character of text (4.1.2.3)
abbrev pub has_other_bytes : List ℕ → Bool
has_other_bytes card = not (is_text card)

-- E02: the name isn't capital letters, digits, hyphens and underscores, and then spaces (4.1.2.1)
abbrev pub has_bad_name : List ℕ → Bool
has_bad_name card = not (is_spelled (keyword_name card))

-- E03: a card of text has a value field that can't be read (4.2)
abbrev pub has_unreadable_value : List ℕ → Bool
has_unreadable_value card = has_value card && is_text card && is_none (kind_said card)

-- no value at all
abbrev pub is_undefined : ValueKind → Bool
is_undefined Undefined = true
is_undefined kind = false

-- W04: the value field has no value (4.1.2.3)
abbrev pub has_undefined_value : List ℕ → Bool
has_undefined_value card = option_map_or is_undefined (kind_said card) false

-- the types are there, and a value of the second may not stand for the first
abbrev pub disagree : Option ValueKind → Option ValueKind → Bool
disagree (Some type) (Some kind) = not (suits type kind)
disagree type kind = false

-- E05: the value has another type than the standard gives the keyword (4.4.1, 4.4.2)
abbrev pub has_wrong_type : List ℕ → Bool
has_wrong_type card = disagree (keyword_type (keyword_name card)) (kind_said card)

-- W11: byte 9 is an equals sign and byte 10 no space, on a card that isn't commentary (4.1.2.2)
abbrev pub lacks_space : List ℕ → Bool
lacks_space card = (slice_index card 8 == 61) && not (slice_index card 9 == 32) && not (is_one_of commentary_names (keyword_name card))

-- the text is looked at for a date and is none
abbrev pub is_bad_date : List ℕ → Bool
is_bad_date text = is_judged text && not (is_date text)

-- E12: DATE or DATE-OBS has a string that is no date (4.4.2.1, 4.4.2.2, 9.1.1)
abbrev pub has_bad_date : List ℕ → Bool
has_bad_date card = is_one_of date_keywords (keyword_name card) && option_map_or is_bad_date (string_said card) false

-- W13: EPOCH or BLOCKED has a value (4.4.2.1, 8.3)
abbrev pub has_deprecated_keyword : List ℕ → Bool
has_deprecated_keyword card = is_one_of deprecated_keywords (keyword_name card) && has_value card

-- the card has what a code names, as far as the card alone says it
unfoldable pub has_alone : List ℕ → Code → Bool
has_alone card NotText = has_other_bytes card
has_alone card BadName = has_bad_name card
has_alone card UnreadableValue = has_unreadable_value card
has_alone card UndefinedValue = has_undefined_value card
has_alone card WrongType = has_wrong_type card
has_alone card NoSpaceAfterEquals = lacks_space card
has_alone card BadDate = has_bad_date card
has_alone card DeprecatedKeyword = has_deprecated_keyword card
has_alone card code = false

-- the codes that a card alone can have, by number
abbrev pub alone_codes : List Code
alone_codes = NotText ∷ BadName ∷ UnreadableValue ∷ UndefinedValue ∷ WrongType ∷ NoSpaceAfterEquals ∷ BadDate ∷ DeprecatedKeyword ∷ []

-- those that it has
unfoldable pub codes_alone : List ℕ → List Code
codes_alone card = filter (has_alone card) alone_codes
