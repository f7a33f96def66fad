-- The first card of a name that has a value, one place after another.
use Rattle.std.proofs.Common.{◌≡◌, ℕ, List, [], ◌∷◌, Option, None, Some, ap, sym, subst, ◌∙◌}
use Rattle.fits_passing.specs.File.{FileParts}
use Rattle.fits_session.specs.Query.{card_in}
use Rattle.fits_extended.specs.Stands.{lead_among, lead_or}

-- it is at this place
pub lead_here : (file now : FileParts) (h place : ℕ) (card : List ℕ) (places rest after : List ℕ) → lead_among file h rest ≡ lead_among file h places → rest ≡ place ∷ after
    → now ≡ file → ((others : Option (ℕ × List ℕ)) → lead_or place (card_in now h place) others ≡ Some (place, card)) → Some (place, card) ≡ lead_among file h places
unfolding lead_among
lead_here file now h place card places rest after found cut same said =
    let here : lead_or place (card_in file h place) (lead_among file h after) ≡ Some (place, card) = subst (λ (f : FileParts). lead_or place (card_in f h place) (lead_among file h after) ≡ Some (place, card)) same (said (lead_among file h after)) in
    sym here ∙ sym (ap (lead_among file h) cut) ∙ found

-- or after it
pub lead_after : (file now : FileParts) (h place : ℕ) (places rest after : List ℕ) → lead_among file h rest ≡ lead_among file h places → rest ≡ place ∷ after
    → now ≡ file → ((others : Option (ℕ × List ℕ)) → lead_or place (card_in now h place) others ≡ others) → lead_among file h after ≡ lead_among file h places
unfolding lead_among
lead_after file now h place places rest after found cut same said =
    let here : lead_or place (card_in file h place) (lead_among file h after) ≡ lead_among file h after = subst (λ (f : FileParts). lead_or place (card_in f h place) (lead_among file h after) ≡ lead_among file h after) same (said (lead_among file h after)) in
    sym here ∙ sym (ap (lead_among file h) cut) ∙ found

-- or there is none
pub lead_none : (file : FileParts) (h : ℕ) (places rest : List ℕ) → lead_among file h rest ≡ lead_among file h places → rest ≡ [] → None ≡ lead_among file h places
unfolding lead_among
lead_none file h places rest found none = sym (ap (lead_among file h) none) ∙ found
