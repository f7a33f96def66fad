-- The codes of a card by its mark and by what stands round it: one fact for each code.
use Rattle.std.specs.Prelude.{◌+◌, Bool, ◌&&◌, ◌||◌, not, nat_le, List, [], ◌∷◌, codes}
use Rattle.std.specs.List.{filter}
use Rattle.std.specs.Str.{bytes_eq}
use Rattle.fits_rules.specs.Class.{is_primary}
use Rattle.fits_codes.specs.Code.{is_among}
use Rattle.fits_codes.specs.Fixed.{is_fixed_as}
use Rattle.fits_codes.specs.Keywords.{is_one_of, is_mandatory, mandatory_type, count_keywords}
use Rattle.fits_codes.specs.declared.code.Code.{Code}
use Rattle.fits_codes.specs.declared.code.Code.TheVariants.{NotText, BadName, UnreadableValue, UndefinedValue, WrongType, NotFixedFormat, MandatoryRepeated, KeywordRepeated, StrayContinue, AmpersandNotContinued, NoSpaceAfterEquals, BadDate, DeprecatedKeyword}
use Rattle.fits_codes.specs.declared.context.Context.{Context}
use Rattle.fits_codes.specs.declared.mark.Mark.{Mark}

-- the card says a number or a type of the shape: it stands at the place of SIMPLE or XTENSION, BITPIX, NAXIS or an axis, or it is the
-- first PCOUNT or GCOUNT of an extension that has a value (4.4.1.1, 4.4.1.2)
abbrev pub says_shape : Mark → Context → Bool
says_shape mark context =
    nat_le context.place (3 + context.axes)
    || (not (is_primary context.class) && is_one_of count_keywords mark.name && mark.has_value && not context.around.value_before)

-- E06: such a card has no value of its type in fixed format (4.4.1.1, 4.4.1.2)
abbrev pub is_not_fixed : Mark → Context → Bool
is_not_fixed mark context = says_shape mark context && not (is_fixed_as (mandatory_type context.class context.place) mark.fixed)

-- the card has a mandatory keyword (4.4.1.1, 4.4.1.2)
abbrev pub has_mandatory_name : Mark → Context → Bool
has_mandatory_name mark context = is_mandatory context.class context.axes mark.name

-- E07: a mandatory keyword stands on an earlier card too, with a value or without (4.4.1)
abbrev pub repeats_mandatory : Mark → Context → Bool
repeats_mandatory mark context = context.around.name_before && has_mandatory_name mark context

-- W08: another keyword has a value, and had one on an earlier card (4.4.2)
abbrev pub repeats_keyword : Mark → Context → Bool
repeats_keyword mark context = context.around.value_before && mark.has_value && not (has_mandatory_name mark context)

-- W09: a card is named CONTINUE and continues no string (4.2.1.2)
abbrev pub is_stray : Mark → Context → Bool
is_stray mark context = bytes_eq mark.name (codes "CONTINUE") && not context.around.is_link

-- W10: a piece of a string ends in an ampersand, and the next card doesn't continue it (4.2.1.2)
abbrev pub is_left_open : Mark → Context → Bool
is_left_open mark context = (mark.begins || context.around.is_link) && mark.is_open && not context.next_is_link

-- the card has what a code names
unfoldable pub has_code : Mark → Context → Code → Bool
has_code mark context NotFixedFormat = is_not_fixed mark context
has_code mark context MandatoryRepeated = repeats_mandatory mark context
has_code mark context KeywordRepeated = repeats_keyword mark context
has_code mark context StrayContinue = is_stray mark context
has_code mark context AmpersandNotContinued = is_left_open mark context
has_code mark context code = is_among mark.alone code

-- the codes that a card can have, by number
abbrev pub card_codes : List Code
card_codes =
    NotText ∷ BadName ∷ UnreadableValue ∷ UndefinedValue ∷ WrongType ∷ NotFixedFormat ∷ MandatoryRepeated ∷ KeywordRepeated
    ∷ StrayContinue ∷ AmpersandNotContinued ∷ NoSpaceAfterEquals ∷ BadDate ∷ DeprecatedKeyword ∷ []

-- those that it has
unfoldable pub judged : Mark → Context → List Code
judged mark context = filter (has_code mark context) card_codes
