-- What a card that has a value says alone, without its CONTINUE cards (FITS Standard 4.0, sections 4.1.2.3 and 4.2).
use Rattle.std.specs.Prelude.{ℕ, ℤ, pos, negsuc, nat_lt, Bool, List, Option, None, Some, option_and_then, if◌then◌else◌}
use Rattle.std.specs.Option.{option_map}
use Rattle.fits_card.specs.Card.{has_value}
use Rattle.fits_value.specs.Says.{card_says, card_string, integer_in}
use Rattle.fits_value.specs.declared.value.Value.{Value}
use Rattle.fits_value.specs.declared.value.Value.TheVariants.{Logical, Integer}
use Rattle.fits_rules.specs.declared.integers.IntegerSaid.{IntegerSaid}
use Rattle.fits_rules.specs.declared.integers.IntegerSaid.TheVariants.{Nothing, TooLarge, Number}

-- the value of a card that has a value field (4.1.2.2)
unfoldable pub value_said : List ℕ → Option Value
value_said card = if has_value card then option_map (λ said. said.0) (card_says card) else None

-- the number of an integer, however large (4.2.3)
abbrev pub integer_of_value : Value → Option ℤ
integer_of_value (Integer text) = integer_in text
integer_of_value value = None

-- whether a logical value is T (4.2.2)
abbrev pub logical_of_value : Value → Option Bool
logical_of_value (Logical flag) = Some flag
logical_of_value value = None

-- the integer that a card says alone (4.2.3)
unfoldable pub integer_said : List ℕ → Option ℤ
integer_said card = option_and_then integer_of_value (value_said card)

-- the logical value (4.2.2)
unfoldable pub logical_said : List ℕ → Option Bool
logical_said card = option_and_then logical_of_value (value_said card)

-- the character string, in normal form (4.2.1.1)
unfoldable pub string_said : List ℕ → Option (List ℕ)
string_said card = if has_value card then card_string card else None

-- the number has 64 bits
abbrev pub has_64_bits : ℤ → Bool
has_64_bits (pos number) = nat_lt number 9223372036854775808
has_64_bits (negsuc number) = nat_lt number 9223372036854775808

-- an integer of 64 bits, apart from one that is too large and from none (own)
abbrev pub in_64_bits : Option ℤ → IntegerSaid
in_64_bits None = Nothing
in_64_bits (Some number) = if has_64_bits number then Number number else TooLarge
