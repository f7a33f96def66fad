-- The number of columns.
use Rattle.std.proofs.Common.{◌≡◌, ℕ, ◌+◌, ◌-◌, ◌<◌, ◌≤◌, List, length, get_or, None, Some, option_and_then, ap, sym, ◌∙◌, arith}
use Rattle.std.proofs.lemmas.Option.{slice_get_past, slice_get-get_or}
use Rattle.fits_card.specs.Header.{card_at}
use Rattle.fits_rules.proofs.IntegerLemmas.{number_is, number_nothing, number_large}
use Rattle.fits_table.specs.Fields.{fields_in, fields_of}

pub ruleset fields_steps = (number_is, number_nothing, number_large)

-- a card that is there
pub card_there : (cards : List (List ℕ)) (place : ℕ) (card : List ℕ) → 1 ≤ place → place ≤ length cards → card ≡ get_or cards (place - 1) card → Some card ≡ card_at cards place
card_there cards place card from to is = sym (slice_get-get_or cards (place - 1) card (omega arith) ∙ ap Some (sym is))

pub ruleset card_steps = (card_there)

-- the card of the place
pub place_there : (cards : List (List ℕ)) (axes : ℕ) (card : List ℕ) → Some card ≡ card_at cards (6 + axes) → fields_in card ≡ fields_of cards axes
unfolding fields_of
place_there cards axes card is = ap (option_and_then fields_in) is

-- none is there
pub place_past : (cards : List (List ℕ)) (axes : ℕ) → length cards < 6 + axes → None ≡ fields_of cards axes
unfolding fields_of
place_past cards axes past = sym (ap (option_and_then fields_in) (slice_get_past cards (6 + axes - 1) (omega arith)))

pub ruleset place_steps = (place_there, place_past)
