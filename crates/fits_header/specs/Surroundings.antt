-- What stands round the cards of a header, as far as the rules of a report ask (own).
use Rattle.std.specs.Prelude.{◌≡◌, ◌≤◌, ℕ, ◌-◌, false, List, length, map, take, slice_index_or}
use Rattle.std.specs.List.{list_any, range_with_len}
use Rattle.fits_card.specs.Card.{keyword_name}
use Rattle.fits_rules.specs.Lead.{is_value_of}
use Rattle.fits_codes.specs.declared.surrounding.Surrounding.{Surrounding}
use Rattle.fits_header.specs.Links.{header_links}
use Rattle.fits_header.specs.Places.{card_of, has_name}

-- what stands round the card at a place: the cards before it that have its name, and whether it is a link
abbrev pub surrounding_at : List (List ℕ) → ℕ → Surrounding
surrounding_at cards place = record {
  name_before = list_any (has_name (keyword_name (card_of cards place))) (take (place - 1) cards);
  value_before = list_any (is_value_of (keyword_name (card_of cards place))) (take (place - 1) cards);
  is_link = slice_index_or (header_links cards) (place - 1) false;
}

-- that of each card
unfoldable pub surroundings_of : List (List ℕ) → List Surrounding
surroundings_of cards = map (surrounding_at cards) (range_with_len 1 (length cards))

-- whether earlier cards have a card's name is marked beside it, and the links are as before
abbrev pub AreRepeatsMarked : List (List ℕ) → List Surrounding → List Surrounding → Type 0
AreRepeatsMarked cards old new = (place : ℕ) (d : Surrounding) → 1 ≤ place → place ≤ length cards
    → slice_index_or new (place - 1) d ≡ record (surrounding_at cards place) { is_link = (slice_index_or old (place - 1) d).is_link }
