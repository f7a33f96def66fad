-- What texts, cards and places say, as functions: the laws tie them to the relations, which are the definitions (own).
use Rattle.std.specs.Prelude.{ℕ, ◌+◌, ◌-◌, ◌*◌, ◌^◌, ◌==◌, ◌<◌, ◌≤◌, Bool, true, false, ◌&&◌, nat_lt, ℤ, pos, negsuc, unsigned_abs, List, [], ◌∷◌, ◌++◌, length, take, drop, codes, Option, None, Some, if◌then◌else◌}
use Rattle.std.specs.List.{list_all, take_while}
use Rattle.std.specs.Option.{option_map}
use Rattle.std.specs.Str.{bytes_eq}
use Rattle.fits_card.specs.Card.{keyword_name, indicator, has_value, is_text}
use Rattle.fits_value.specs.Spelling.{is_digit}
use Rattle.fits_value.specs.Field.{field, part}
use Rattle.fits_value.specs.Text.{normal_form}
use Rattle.fits_value.specs.LongString.{cards_from, without_last}
use Rattle.fits_value.specs.Number.{signed, value_of, raised, lowered}
use Rattle.fits_value.specs.NumberSteps.{is_minus, after_sign, after_digits, fraction_digits, after_fraction, is_lowered, exponent_digits, after_exponent}
use Rattle.fits_value.specs.Scan.{pair_of, reading_of, undoubled}
use Rattle.fits_value.specs.declared.reading.ValueKind.{ValueKind}
use Rattle.fits_value.specs.declared.reading.ValueKind.TheVariants as kind
use Rattle.fits_value.specs.declared.reading.Reading.{Reading}
use Rattle.fits_value.specs.declared.value.Value.{Value}
use Rattle.fits_value.specs.declared.value.Value.TheVariants.{Undefined, Logical, Integer, Real, Complex, Str}

-- the text is T
abbrev pub is_true : List ℕ → Bool
is_true text = bytes_eq text (codes "T")

-- what stands between the first byte and the last one
abbrev pub inner : List ℕ → List ℕ
inner text = take (length text - 2) (drop 1 text)

-- the value of this kind that is spelled so
abbrev pub value_spelled : ValueKind → List ℕ → Option Value
value_spelled kind.Undefined spelling = Some Undefined
value_spelled kind.Logical spelling = Some (Logical (is_true spelling))
value_spelled kind.Integer spelling = Some (Integer spelling)
value_spelled kind.Real spelling = Some (Real spelling)
value_spelled kind.Complex spelling = option_map (λ pair. Complex (part spelling pair.real) (part spelling pair.imaginary)) (pair_of (drop 1 spelling))
value_spelled kind.Str spelling = Some (Str (normal_form (undoubled (inner spelling))))

-- the value and the comment of a reading
abbrev pub read_said : List ℕ → Option Reading → Option (Value × Option (List ℕ))
read_said text None = None
read_said text (Some reading) = option_map (λ value. (value, option_map (part text) reading.comment)) (value_spelled reading.kind (part text reading.value))

-- what a text says, whatever its length
unfoldable pub field_says : List ℕ → Option (Value × Option (List ℕ))
field_says text = if is_text text then read_said text (reading_of text) else None

-- what a card's bytes 11 to 80 say (4.1.2.3)
unfoldable pub card_says : List ℕ → Option (Value × Option (List ℕ))
card_says card = if is_text card then field_says (field card) else None

-- the text of a value that is a string, with a comment
abbrev pub string_with : Value → Option (List ℕ) → Option (List ℕ × Option (List ℕ))
string_with (Str text) comment = Some (text, comment)
string_with value comment = None

-- the string that is said, with its comment
abbrev pub said_string : Option (Value × Option (List ℕ)) → Option (List ℕ × Option (List ℕ))
said_string None = None
said_string (Some said) = string_with said.0 said.1

-- the string that a card says alone, decoded and in normal form (4.2.1.1)
unfoldable pub card_string : List ℕ → Option (List ℕ)
card_string card = option_map (λ said. said.0) (said_string (card_says card))

-- named CONTINUE, with spaces in bytes 9 and 10 (4.2.1.2)
unfoldable pub is_continue : List ℕ → Bool
is_continue card = bytes_eq (keyword_name card) (codes "CONTINUE") && bytes_eq (indicator card) (codes "  ")

-- the string and the comment of a proper CONTINUE card (4.2.1.2)
unfoldable pub link_says : List ℕ → Option (List ℕ × Option (List ℕ))
link_says card = if is_continue card then said_string (card_says card) else None

-- its string alone
unfoldable pub link_string : List ℕ → Option (List ℕ)
link_string card = if is_continue card then card_string card else None

-- a string and comment before those of the cards after it, where there is one
abbrev pub link_before : Option (List ℕ × Option (List ℕ)) → List (List ℕ × Option (List ℕ)) → List (List ℕ × Option (List ℕ))
link_before None links = []
link_before (Some link) links = link ∷ links

-- the strings and comments of the proper CONTINUE cards that come first
abbrev pub links_of : List (List ℕ) → List (List ℕ × Option (List ℕ))
links_of [] = []
links_of (card ∷ cards) = link_before (link_says card) (links_of cards)

-- the text ends in an ampersand: it may be continued (4.2.1.2)
abbrev pub ends_in_ampersand : List ℕ → Bool
ends_in_ampersand text = bytes_eq (drop (length text - 1) text) (codes "&")

-- a text and its comment, continued by links: where it ends in an ampersand, it loses that and goes on in the next (4.2.1.2)
abbrev pub joined : List ℕ → Option (List ℕ) → List (List ℕ × Option (List ℕ)) → List ℕ × Option (List ℕ)
joined text comment [] = (text, comment)
joined text comment (link ∷ links) =
    let rest = joined link.0 link.1 links in
    if ends_in_ampersand text then (without_last text ++ rest.0, rest.1) else (text, comment)

-- the string in normal form and the comment that a text and its comment come to with the cards after them (4.2.1.2)
abbrev pub whole_string : List ℕ → Option (List ℕ) → List (List ℕ) → List ℕ × Option (List ℕ)
whole_string text comment cards = let chain = joined text comment (links_of cards) in (normal_form chain.0, chain.1)

-- what a card's value and comment come to, with the cards after it: a string goes on in their links
abbrev pub continued : Value → Option (List ℕ) → List (List ℕ) → Value × Option (List ℕ)
continued (Str text) comment cards = let whole = whole_string text comment cards in (Str whole.0, whole.1)
continued value comment cards = (value, comment)

-- what the first of these cards says: only a value field begins a chain (4.2.1.2)
abbrev pub first_says : List (List ℕ) → Option (Value × Option (List ℕ))
first_says [] = None
first_says (card ∷ cards) = if has_value card then option_map (λ said. continued said.0 said.1 cards) (card_says card) else card_says card

-- what a place says, counted from 1: the string of its chain with the last card's comment, or what its card says alone
unfoldable pub long_says : List (List ℕ) → ℕ → Option (Value × Option (List ℕ))
long_says cards place = first_says (cards_from cards place)

-- how many links a text goes on in: it and each but the last end in an ampersand (4.2.1.2)
abbrev pub links_after : List ℕ → List (List ℕ × Option (List ℕ)) → ℕ
links_after text [] = 0
links_after text (link ∷ links) = if ends_in_ampersand text then 1 + links_after link.0 links else 0

-- how many cards a string has that goes on in the links after it
abbrev pub string_cards : Option (List ℕ) → List (List ℕ) → ℕ
string_cards None cards = 0
string_cards (Some text) cards = 1 + links_after text (links_of cards)

-- how many cards the chain has that the first of these begins
abbrev pub first_chain_length : List (List ℕ) → ℕ
first_chain_length [] = 0
first_chain_length (card ∷ cards) = if has_value card then string_cards (card_string card) cards else 0

-- how many cards the chain has that begins at a place, 0 where none begins (4.2.1.2)
unfoldable pub chain_length : List (List ℕ) → ℕ → ℕ
chain_length cards place = first_chain_length (cards_from cards place)

-- how many CONTINUE cards belong to the string that begins at a place, 0 where none begins (4.2.1.2)
abbrev pub link_count : List (List ℕ) → ℕ → ℕ
link_count cards place = chain_length cards place - 1

-- the card at a place belongs to a string that begins before it (4.2.1.2)
pub record IsLink (cards : List (List ℕ)) (place : ℕ) : Type 0 where
  pub first : ℕ
  pub from : 1 ≤ first
  pub before : first < place
  pub within : place < first + chain_length cards first

-- the number of digits after a sign
abbrev pub number_in : Bool → List ℕ → Option ℤ
number_in negative digits = if nat_lt 0 (length digits) && list_all is_digit digits then Some (signed negative (value_of digits)) else None

-- the number of a text that is an integer, however large (4.2.3)
unfoldable pub integer_in : List ℕ → Option ℤ
integer_in text = number_in (is_minus text) (after_sign text)

-- the digits before the point
abbrev pub front_digits : List ℕ → List ℕ
front_digits text = take_while is_digit (after_sign text)

-- the text without its sign and them: the point, the digits after it and the exponent
abbrev pub after_front : List ℕ → List ℕ
after_front text = after_digits (after_sign text)

-- the digits after the point
abbrev pub back_digits : List ℕ → List ℕ
back_digits text = fraction_digits (after_front text)

-- the text without the point and them: the exponent
abbrev pub after_back : List ℕ → List ℕ
after_back text = after_fraction (after_front text)

-- the power of ten, 0 without an exponent (4.2.4)
abbrev pub power_in : List ℕ → ℤ
power_in text = signed (is_lowered (after_back text)) (value_of (exponent_digits (after_back text)))

-- the text is an integer or a real: it has a digit before the exponent, and nothing after it (4.2.3, 4.2.4)
abbrev pub is_number : List ℕ → Bool
is_number text = nat_lt 0 (length (front_digits text) + length (back_digits text)) && (length (after_exponent (after_back text)) == 0)

-- the number is 0, or negative exactly where the text has a minus sign
abbrev pub agrees_in_sign : Bool → ℤ → Bool
agrees_in_sign true (pos number) = number == 0
agrees_in_sign true (negsuc number) = true
agrees_in_sign false (pos number) = true
agrees_in_sign false (negsuc number) = false

-- these digits, with a point between them, times a power of ten are exactly this number
abbrev pub is_exactly : List ℕ → List ℕ → ℤ → ℕ → Bool
is_exactly front back power number = value_of (front ++ back) * 10 ^ raised power == number * 10 ^ (length back + lowered power)

-- the text is an integer or a real that denotes exactly this number (4.2.3, 4.2.4)
unfoldable pub says_number : List ℕ → ℤ → Bool
says_number text number =
    is_number text && (agrees_in_sign (is_minus text) number && is_exactly (front_digits text) (back_digits text) (power_in text) (unsigned_abs number))
