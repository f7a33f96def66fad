-- The card at a place after a change.
use Rattle.std.proofs.Common.{◌≡◌, ℕ, ◌-◌, ◌<◌, List, length, None, Some, slice_get, sym, arith}
use Rattle.std.proofs.lemmas.Option.{slice_get_past}
use Rattle.fits_card.specs.Header.{card_at}

-- none is there
pub after_past : (cards : List (List ℕ)) (place n : ℕ) → n ≡ length cards → n < place → None ≡ card_at cards place
after_past cards place n is past = sym (slice_get_past cards (place - 1) (omega (arith, is, past)))

-- one is
pub after_there : (cards : List (List ℕ)) (place : ℕ) (card : List ℕ) → slice_get cards (place - 1) ≡ Some card → Some card ≡ card_at cards place
after_there cards place card is = sym is

pub ruleset place_steps = (after_past, after_there)
