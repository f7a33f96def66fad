-- What stands behind the counts of a new image.
use Rattle.std.proofs.Common.{◌≡◌, ℕ, false, List, ◌∷◌, codes, ◌∙◌, arith}
use Rattle.std.specs.Prelude.{pos}
use Rattle.std.specs.Str.{bytes_eq}
use Rattle.fits_image.specs.declared.kind.Kind.{Kind}
use Rattle.fits_image.proofs.LeadFromLemmas.{from_lead}
use Rattle.fits_image.proofs.ImageCardLemmas.{bscale_name, gcount_is, later_list, offset_list, passed, pcount_is}
use Rattle.fits_image.proofs.NumberCardLemmas.{IsValueCard, number_card, number_card_is}

-- a lead that is no count's is the offset's
pub behind_counts : (name : List ℕ) (kind : Kind) → bytes_eq (codes "PCOUNT  ") name ≡ false → bytes_eq (codes "GCOUNT  ") name ≡ false → from_lead name (later_list kind) ≡ from_lead name (offset_list kind)
behind_counts name kind p g =
    passed name (codes "PCOUNT  ") (number_card (codes "PCOUNT  ") (pos 0)) (number_card (codes "GCOUNT  ") (pos 1) ∷ offset_list kind) pcount_is p
    ∙ passed name (codes "GCOUNT  ") (number_card (codes "GCOUNT  ") (pos 1)) (offset_list kind) gcount_is g

-- BSCALE has its card
pub bscale_is : IsValueCard (codes "BSCALE  ") (number_card (codes "BSCALE  ") (pos 1))
bscale_is = number_card_is (codes "BSCALE  ") (pos 1) bscale_name (omega arith)
