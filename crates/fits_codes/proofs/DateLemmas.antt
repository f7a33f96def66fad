-- Layouts of dates.
use Rattle.std.proofs.Common.{◌≡◌, ℕ, Bool, true, false, ◌&&◌, List, [], ◌∷◌, length, refl, ◌∙◌, ap, arith}
use Rattle.fits_codes.specs.Date.{fits_place, follows}

-- what fails after anything fails
and_fails : (b : Bool) → false ≡ (b && false)
and_fails true = refl
and_fails false = refl

-- a text of another length doesn't follow a layout
pub follows-other : (layout text : List ℕ) → (length layout ≡ length text → ⊥) → false ≡ follows layout text
follows-other [] [] other = absurd (other refl)
follows-other [] (byte ∷ text) other = refl
follows-other (place ∷ layout) [] other = refl
follows-other (place ∷ layout) (byte ∷ text) other =
    and_fails (fits_place place byte) ∙ ap (λ (b : Bool). fits_place place byte && b) (follows-other layout text (λ same. other (omega arith)))
