-- A header by hand.
use Rattle.std.proofs.Common.{◌≡◌, ℕ, List, [], ◌∷◌, codes, refl}
use Rattle.fits_header.specs.Names.{header_names}
use Rattle.fits_header.specs.Places.{keyword_places}

-- five cards, by their names
abbrev five_cards : List (List ℕ)
five_cards = codes "SIMPLE  " ∷ codes "BITPIX  " ∷ codes "NAXIS   " ∷ codes "COMMENT " ∷ codes "BITPIX  " ∷ []

-- each name once, ascending
names_once : header_names five_cards ≡ codes "BITPIX  " ∷ codes "COMMENT " ∷ codes "NAXIS   " ∷ codes "SIMPLE  " ∷ []
names_once = refl

-- the places of a name that stands twice, and of one that stands nowhere
places_twice : keyword_places five_cards (codes "BITPIX  ") ≡ 2 ∷ 5 ∷ []
places_twice = refl

-- a name that no card has
places_nowhere : keyword_places five_cards (codes "GCOUNT  ") ≡ []
places_nowhere = refl
