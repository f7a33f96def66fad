-- The codes of a header as a whole, which a report gives at place 0: one fact for each code.
use Rattle.std.specs.Prelude.{ℕ, ◌+◌, ◌==◌, Bool, true, false, ◌&&◌, not, nat_lt, is_some, ℤ, pos, negsuc, List, [], ◌∷◌, length, codes, Option, Some, if◌then◌else◌}
use Rattle.std.specs.List.{filter, list_any}
use Rattle.std.specs.Option.{option_map, option_map_or}
use Rattle.std.specs.Str.{bytes_eq}
use Rattle.fits_card.specs.Card.{keyword_name}
use Rattle.fits_card.specs.Header.{Header, card_at, is_end_blank, is_fill_blank}
use Rattle.fits_rules.specs.Class.{is_primary}
use Rattle.fits_rules.specs.Image.{image_bits}
use Rattle.fits_rules.specs.Lead.{lead_card}
use Rattle.fits_rules.specs.Reads.{integer_said, logical_said, in_64_bits}
use Rattle.fits_rules.specs.Shape.{card_named}
use Rattle.fits_rules.specs.declared.array_shape.Shape.{Shape}
use Rattle.fits_rules.specs.declared.class.Class.{Class}
use Rattle.fits_rules.specs.declared.class.Class.TheVariants.{Image}
use Rattle.fits_rules.specs.declared.integers.IntegerSaid.{IntegerSaid}
use Rattle.fits_rules.specs.declared.integers.IntegerSaid.TheVariants.{Nothing, TooLarge, Number}
use Rattle.fits_codes.specs.declared.code.Code.{Code}
use Rattle.fits_codes.specs.declared.code.Code.TheVariants.{EndNotBlank, FillNotSpaces, CountsOutOfPlace, ImageCountsNotPlain, WrongKindOfHdu, SimpleIsFalse, BlankWithReals, BlankOutOfRange}
use Rattle.fits_codes.specs.declared.header_mark.HeaderMark.{HeaderMark}

-- PCOUNT and GCOUNT follow the axes (4.4.1.2)
abbrev pub has_counts_in_place : List (List ℕ) → ℕ → Bool
has_counts_in_place cards axes = is_some (card_named cards (4 + axes) (codes "PCOUNT  ")) && is_some (card_named cards (5 + axes) (codes "GCOUNT  "))

-- the name that begins the other kind of HDU (4.4.1.1, 4.4.1.2)
abbrev pub other_first_name : Class → List ℕ
other_first_name class = if is_primary class then codes "XTENSION" else codes "SIMPLE  "

-- a card has this name
abbrev pub has_card_named : List (List ℕ) → List ℕ → Bool
has_card_named cards name = list_any (λ card. bytes_eq (keyword_name card) name) cards

-- the card says F (4.2.2)
abbrev pub says_false : List ℕ → Bool
says_false card = option_map_or not (logical_said card) false

-- the card at place 1 says F (4.4.1.1)
abbrev pub begins_false : List (List ℕ) → Bool
begins_false cards = option_map_or says_false (card_at cards 1) false

-- what the first BLANK with a value says; none where there is none (4.4.2.5)
abbrev pub blank_said : List (List ℕ) → Option IntegerSaid
blank_said cards = option_map (λ card. in_64_bits (integer_said card)) (lead_card cards (codes "BLANK   "))

-- the mark of a header: what its END, its fill and its cards say, as far as the rules ask (own)
unfoldable pub header_mark_of : Header → Shape → HeaderMark
header_mark_of header shape = record {
  end_blank = is_end_blank header;
  fill_blank = is_fill_blank header;
  counts_in_place = has_counts_in_place header.cards (length shape.axes);
  has_other_first = has_card_named header.cards (other_first_name shape.class);
  begins_false = begins_false header.cards;
  blank = blank_said header.cards;
}

-- E16: an extension's PCOUNT and GCOUNT don't follow its axes (4.4.1.2)
abbrev pub has_counts_elsewhere : HeaderMark → Shape → Bool
has_counts_elsewhere mark shape = not (is_primary shape.class) && not mark.counts_in_place

-- E17: an IMAGE extension has other counts than 0 and 1 (7.1.1)
abbrev pub has_image_counts : Class → ℕ → ℕ → Bool
has_image_counts Image pcount gcount = not ((pcount == 0) && (gcount == 1))
has_image_counts class pcount gcount = false

-- W19: SIMPLE says that the file doesn't conform (4.4.1.1)
abbrev pub is_simple_false : HeaderMark → Shape → Bool
is_simple_false mark shape = is_primary shape.class && mark.begins_false

-- reals
abbrev pub is_negative : ℤ → Bool
is_negative (pos bits) = false
is_negative (negsuc bits) = true

-- E20: BLANK has a value, and the pixels are reals (4.4.2.5)
abbrev pub has_blank_with_reals : HeaderMark → Shape → Bool
has_blank_with_reals mark shape = is_negative shape.bitpix && is_some mark.blank

-- how many numbers from 0 on an array of so many bits can hold (5.2)
abbrev pub numbers_from_zero : ℕ → ℕ
numbers_from_zero bits = if bits == 8 then 256 else (if bits == 16 then 32768 else (if bits == 32 then 2147483648 else 9223372036854775808))

-- how many numbers below 0 (5.2)
abbrev pub numbers_below_zero : ℕ → ℕ
numbers_below_zero bits = if bits == 8 then 0 else numbers_from_zero bits

-- the array can hold the number (5.2)
abbrev pub is_stored : ℕ → ℤ → Bool
is_stored bits (pos number) = nat_lt number (numbers_from_zero bits)
is_stored bits (negsuc number) = nat_lt number (numbers_below_zero bits)

-- an integer that an array of so many bits can't hold
abbrev pub is_out_of_range : ℕ → IntegerSaid → Bool
is_out_of_range bits Nothing = false
is_out_of_range bits TooLarge = true
is_out_of_range bits (Number number) = not (is_stored bits number)

-- both are there, and it is such an integer
abbrev pub is_outside : Option ℕ → Option IntegerSaid → Bool
is_outside (Some bits) (Some said) = is_out_of_range bits said
is_outside bits said = false

-- the header has what a code names
unfoldable pub has_header_code : HeaderMark → Shape → Code → Bool
-- E14: END has other bytes than spaces after its name (4.4.1)
has_header_code mark shape EndNotBlank = not mark.end_blank
-- E15: other bytes than spaces follow END (3.3.1)
has_header_code mark shape FillNotSpaces = not mark.fill_blank
has_header_code mark shape CountsOutOfPlace = has_counts_elsewhere mark shape
has_header_code mark shape ImageCountsNotPlain = has_image_counts shape.class shape.pcount shape.gcount
-- E18: a card is named XTENSION in the primary HDU, or SIMPLE in an extension (4.4.1.1, 4.4.1.2)
has_header_code mark shape WrongKindOfHdu = mark.has_other_first
has_header_code mark shape SimpleIsFalse = is_simple_false mark shape
has_header_code mark shape BlankWithReals = has_blank_with_reals mark shape
-- W21: BLANK is an integer that the array of integers can't hold (4.4.2.5, 5.2)
has_header_code mark shape BlankOutOfRange = is_outside (image_bits shape) mark.blank
has_header_code mark shape code = false

-- the codes that a header as a whole can have, by number
abbrev pub header_codes : List Code
header_codes = EndNotBlank ∷ FillNotSpaces ∷ CountsOutOfPlace ∷ ImageCountsNotPlain ∷ WrongKindOfHdu ∷ SimpleIsFalse ∷ BlankWithReals ∷ BlankOutOfRange ∷ []

-- those that it has by its mark
unfoldable pub header_judged : HeaderMark → Shape → List Code
header_judged mark shape = filter (has_header_code mark shape) header_codes
