-- Which kind an image has, in the terms of the standard.
use Rattle.std.specs.Prelude.{◌≡◌, ◌⊎◌, ℕ, Bool, IsTrue, ◌↔◌, ℤ, pos, List, codes, None, Some}
use Rattle.fits_rules.specs.Denotes.{LeadDenotes}
use Rattle.fits_rules.specs.Image.{image_bits}
use Rattle.fits_rules.specs.Lead.{lead_card}
use Rattle.fits_rules.specs.declared.array_shape.Shape.{Shape}
use Rattle.fits_image.specs.declared.kind.Kind.{Kind}
use Rattle.fits_image.specs.Kind.{convention, kind_of}

-- BSCALE is absent, or denotes 1 (4.4.2.5)
abbrev pub IsUnscaled : List (List ℕ) → Type 0
IsUnscaled cards = (lead_card cards (codes "BSCALE  ") ≡ None) ⊎ LeadDenotes cards (codes "BSCALE  ") (pos 1)

-- BZERO denotes this offset, and nothing is scaled (4.4.2.5)
pub record HasOffset (cards : List (List ℕ)) (offset : ℤ) : Type 0 where
  pub zero : LeadDenotes cards (codes "BZERO   ") offset
  pub scale : IsUnscaled cards

-- the kind of the image that a shape and cards describe
pub record IsKind (shape : Shape) (cards : List (List ℕ)) (kind : Kind) : Type 0 where
  pub bits : ℕ
  pub has_offset : Bool
  pub image : image_bits shape ≡ Some bits
  pub offset : IsTrue has_offset ↔ HasOffset cards (convention bits)
  pub is : kind ≡ kind_of bits has_offset
