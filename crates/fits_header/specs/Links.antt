-- Which cards of a header go on with a long string (FITS Standard 4.0, section 4.2.1.2).
use Rattle.std.specs.Prelude.{Bool, false, ◌&&◌, ◌||◌, ℕ, List, [], ◌∷◌, is_some, map}
use Rattle.std.specs.Option.{option_map_or}
use Rattle.fits_card.specs.Card.{has_value}
use Rattle.fits_value.specs.Says.{card_string, link_string, ends_in_ampersand}

-- what a card says alone of long strings: it is a proper CONTINUE card; its value is a string; its string ends in an ampersand
pub record StringMark : Type 0 where
  pub continues : Bool
  pub begins : Bool
  pub is_open : Bool

-- that of a card
abbrev pub string_mark : List ℕ → StringMark
string_mark card = record {
  continues = is_some (link_string card);
  begins = has_value card && is_some (card_string card);
  is_open = option_map_or ends_in_ampersand (card_string card) false;
}

-- the next card may go on with its string: it begins or goes on with one, which ends in an ampersand
abbrev pub leaves_open : Bool → StringMark → Bool
leaves_open link mark = (link || mark.begins) && mark.is_open

-- which of these cards are links, where a string is open before them or not
abbrev pub links_from : Bool → List StringMark → List Bool
links_from before [] = []
links_from before (mark ∷ marks) =
    (before && mark.continues) ∷ links_from (leaves_open (before && mark.continues) mark) marks

-- which cards of a header are links
abbrev pub header_links : List (List ℕ) → List Bool
header_links cards = links_from false (map string_mark cards)
