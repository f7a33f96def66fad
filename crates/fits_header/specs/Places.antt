-- The places of a keyword.
use Rattle.std.specs.Prelude.{ℕ, ◌+◌, ◌-◌, Bool, List, [], ◌∷◌, take, drop, slice_index_or, Option, if◌then◌else◌}
use Rattle.std.specs.Option.{option_map}
use Rattle.std.specs.Str.{bytes_eq}
use Rattle.fits_card.specs.Card.{keyword_name}
use Rattle.fits_rules.specs.Lead.{lead_place}

-- the card at a place, counted from 1
abbrev pub card_of : List (List ℕ) → ℕ → List ℕ
card_of cards place = slice_index_or cards (place - 1) []

-- the card has this name (4.1.2.1)
abbrev pub has_name : List ℕ → List ℕ → Bool
has_name name card = bytes_eq (keyword_name card) name

-- the places of those that have it, where the first stands at a place
abbrev pub places_from : ℕ → List (List ℕ) → List ℕ → List ℕ
places_from place [] name = []
places_from place (card ∷ cards) name =
    if has_name name card then place ∷ places_from (place + 1) cards name
    else places_from (place + 1) cards name

-- the places of the cards that have a name, ascending, counted from 1 (own)
abbrev pub keyword_places : List (List ℕ) → List ℕ → List ℕ
keyword_places cards name = places_from 1 cards name

-- the cards from a place on and before another
abbrev pub cards_within : List (List ℕ) → ℕ → ℕ → List (List ℕ)
cards_within cards from to = take (to - from) (drop (from - 1) cards)

-- where the lead of those stands, among all cards (own)
abbrev pub lead_place_within : List (List ℕ) → List ℕ → ℕ → ℕ → Option ℕ
lead_place_within cards name from to = option_map (λ place. place + (from - 1)) (lead_place (cards_within cards from to) name)
