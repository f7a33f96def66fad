-- What laws say of the bytes of files, and of their headers (own).
use Rattle.std.specs.Prelude.{◌⊎◌, ℕ, List, ◌≡◌, Some, None, Ok}
use Rattle.fits_passing.specs.File.{FileParts, IsFileOf, is_primary_hdu}
use Rattle.fits_passing.specs.declared.open_fault.OpenFault.{OpenFault}
use Rattle.fits_passing.specs.Opening.{HasOpenFault}
use Rattle.fits_passing.specs.Headers.{AreHeadersIn, cards_of}
use Rattle.fits_rules.specs.Shape.{shape_of}
use Rattle.fits_rules.specs.declared.array_shape.Shape.{Shape}
use Rattle.fits_passing.specs.Hdu.{HduParts}
use Rattle.fits_laws.specs.Kinds.{IsKind}
use Rattle.fits_image.specs.declared.kind.Kind.{Kind}
use Rattle.fits_session.specs.Edit.{hdu_of}

-- the bytes are a file, or have a fault
abbrev pub IsFileOrNot : List ℕ → Type 0
IsFileOrNot bytes = ((file : FileParts) × IsFileOf bytes file) ⊎ ((fault : OpenFault) × HasOpenFault bytes fault)

-- a file has no fault, and its headers are those of its HDUs
abbrev pub HeadersTellFiles : Type 0
HeadersTellFiles = (bytes : List ℕ) (headers : List (List (List ℕ))) → AreHeadersIn headers None bytes
    → (file : FileParts) × IsFileOf bytes file × (headers ≡ cards_of file.hdus)

-- where one is found it is the fault of the bytes
abbrev pub HeadersTellFaults : Type 0
HeadersTellFaults = (bytes : List ℕ) (headers : List (List (List ℕ))) (why : OpenFault) → AreHeadersIn headers (Some why) bytes → HasOpenFault bytes why

-- HDU h is an integer image of this kind (5.2)
pub record IsKindIn (file : FileParts) (h : ℕ) (kind : Kind) : Type 0 where
  pub hdu : HduParts
  pub shape : Shape
  pub there : hdu_of file h ≡ Some hdu
  pub described : shape_of (is_primary_hdu h) hdu.header.cards ≡ Ok shape
  pub is : IsKind shape hdu.header.cards kind
