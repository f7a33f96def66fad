-- Which kind an HDU of a file has.
use Rattle.std.proofs.Common.{◌≡◌, ℕ, List, refl, ap, ◌∙◌, Option, None, Some}
use Rattle.std.specs.Prelude.{◌↔◌, ok_or, Result, Ok, Err}
use Rattle.fits_rules.specs.Shape.{shape_of}
use Rattle.fits_rules.specs.declared.array_shape.Shape.{Shape}
use Rattle.fits_passing.specs.Hdu.{HduParts}
use Rattle.fits_image.specs.Kind.{kind_in as hdu_kind}
use Rattle.fits_laws.specs.Kinds.{IsKind}
use Rattle.fits_image.specs.declared.kind.Kind.{Kind}
use Rattle.fits_hdu.specs.declared.pixel_fault.PixelFault.{PixelFault}
use Rattle.fits_hdu.specs.declared.pixel_fault.PixelFault.TheVariants as pixel
use Rattle.fits_session.specs.Edit.{hdu_of}
use Rattle.fits_passing.specs.File.{is_primary_hdu, FileParts}
use Rattle.fits_making.specs.HduEdit.{pixels_made, shaped}
use Rattle.fits_session.specs.Query.{by_shape, in_hdu, kind_in}
use Rattle.fits_laws.specs.Files.{IsKindIn}

-- which kind an image has, as a function
abbrev pub KindsAreSaid : Type 0
KindsAreSaid = (shape : Shape) (cards : List (List ℕ)) (kind : Kind) → IsKind shape cards kind ↔ (hdu_kind shape cards ≡ Some kind)

-- the kind of an HDU of this shape, or that it is no image
abbrev kind_by : Shape → HduParts → Result Kind PixelFault
kind_by shape hdu = ok_or (hdu_kind shape hdu.header.cards) pixel.NotImage

-- a kind that is answered was found
was_found : (found : Option Kind) (kind : Kind) → pixels_made (ok_or found pixel.NotImage) ≡ Ok kind → found ≡ Some kind
was_found None kind e = cc
was_found (Some other) kind e = let same : other ≡ kind = cc in ap Some same

-- of an HDU whose cards describe this
kind_shaped : KindsAreSaid → (file : FileParts) (h : ℕ) (kind : Kind) (hdu : HduParts) (said : Result Shape ℕ) → hdu_of file h ≡ Some hdu → shape_of (is_primary_hdu h) hdu.header.cards ≡ said → shaped said (λ shape. kind_by shape hdu) ≡ Ok kind → IsKindIn file h kind
kind_shaped law file h kind hdu (Err place) there described e = cc
kind_shaped law file h kind hdu (Ok shape) there described e = record {
  hdu = hdu;
  shape = shape;
  there = there;
  described = described;
  is = (law shape hdu.header.cards kind).1 (was_found (hdu_kind shape hdu.header.cards) kind e);
}

-- of HDU h, if it is there
kind_answered : KindsAreSaid → (file : FileParts) (h : ℕ) (kind : Kind) (hdu : Option HduParts) → hdu_of file h ≡ hdu → in_hdu (by_shape (is_primary_hdu h) kind_by) hdu ≡ Ok kind → IsKindIn file h kind
kind_answered law file h kind None there e = cc
kind_answered law file h kind (Some hdu) there e = kind_shaped law file h kind hdu (shape_of (is_primary_hdu h) hdu.header.cards) there refl e

-- so a kind is answered exactly where the image has it
pub kind_of_hdu : KindsAreSaid → (file : FileParts) (h : ℕ) (kind : Kind) → (kind_in file h ≡ Ok kind) ↔ IsKindIn file h kind
kind_of_hdu law file h kind = (
  λ e. kind_answered law file h kind (hdu_of file h) refl e,
  λ p. ap (in_hdu (by_shape (is_primary_hdu h) kind_by)) p.there
      ∙ ap (λ said. shaped said (λ shape. kind_by shape p.hdu)) p.described
      ∙ ap (λ found. pixels_made (ok_or found pixel.NotImage)) ((law p.shape p.hdu.header.cards kind).0 p.is),
)
