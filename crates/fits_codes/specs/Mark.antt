-- A card's mark: what it says alone, as far as rules over several cards ask (own).
use Rattle.std.specs.Prelude.{ℕ, false, is_some, List}
use Rattle.std.specs.Option.{option_map_or}
use Rattle.fits_card.specs.Card.{keyword_name, has_value}
use Rattle.fits_value.specs.Says.{card_string, link_string, ends_in_ampersand}
use Rattle.fits_rules.specs.Reads.{string_said}
use Rattle.fits_codes.specs.Alone.{codes_alone}
use Rattle.fits_codes.specs.Fixed.{fixed_said}
use Rattle.fits_codes.specs.declared.mark.Mark.{Mark}

-- the mark of a card: its name and whether it has a value; whether it is a proper CONTINUE card, begins a string, and its string ends
-- in an ampersand (4.2.1.2); the type of its value in fixed format, and the codes that it has alone
unfoldable pub mark_of : List ℕ → Mark
mark_of card = record {
  name = keyword_name card;
  has_value = has_value card;
  continues = is_some (link_string card);
  begins = is_some (string_said card);
  is_open = option_map_or ends_in_ampersand (card_string card) false;
  fixed = fixed_said card;
  alone = codes_alone card;
}
