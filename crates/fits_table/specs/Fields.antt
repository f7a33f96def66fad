-- TFIELDS: how many columns a table has (FITS Standard 4.0, sections 7.2.1 and 7.3.1).
use Rattle.std.specs.Prelude.{ℕ, ◌+◌, List, Option, None, option_and_then, codes, if◌then◌else◌}
use Rattle.std.specs.Str.{bytes_eq}
use Rattle.fits_card.specs.Card.{keyword_name}
use Rattle.fits_card.specs.Header.{card_at}
use Rattle.fits_rules.specs.Reads.{integer_said}
use Rattle.fits_rules.specs.Shape.{up_to}

-- a card is named TFIELDS and says 0 to 999 columns
abbrev pub fields_in : List ℕ → Option ℕ
fields_in card = if bytes_eq (keyword_name card) (codes "TFIELDS ") then option_and_then (up_to 999) (integer_said card) else None

-- the card right after GCOUNT, behind so many axes, does
unfoldable pub fields_of : List (List ℕ) → ℕ → Option ℕ
fields_of cards axes = option_and_then fields_in (card_at cards (6 + axes))
