-- Which problems a report lists (own).
use Rattle.std.specs.Prelude.{◌≡◌, ◌⊎◌, ℕ, ◌+◌, ◌<◌, true, length, Contains, Some, Ok, zero, suc}
use Rattle.fits_rules.specs.Shape.{shape_of}
use Rattle.fits_rules.specs.declared.array_shape.Shape.{Shape}
use Rattle.fits_codes.specs.declared.code.Code.{Code}
use Rattle.fits_codes.specs.declared.code.Code.TheVariants.{DuplicateExtension}
use Rattle.fits_header.specs.Findings.{codes_at}
use Rattle.fits_passing.specs.Findings.{whole_codes}
use Rattle.fits_passing.specs.Hdu.{HduParts}
use Rattle.fits_passing.specs.declared.called.ExtensionName.{ExtensionName}
use Rattle.fits_session.specs.Edit.{hdu_of}
use Rattle.fits_passing.specs.File.{is_primary_hdu, FileParts, is_followed}
use Rattle.fits_passing.specs.declared.problem.Problem.{Problem}
use Rattle.fits_passing.specs.Report.{name_in, trails}

-- another HDU than HDU h is called so
pub record IsNameOfAnother (file : FileParts) (h : ℕ) (name : ExtensionName) : Type 0 where
  pub other : ℕ
  pub hdu : HduParts
  pub differs : other ≡ h → ⊥
  pub there : hdu_of file other ≡ Some hdu
  pub called : name_in other hdu ≡ Some name

-- HDU h is called as another is (4.4.2.6)
pub record HasNameOfAnother (file : FileParts) (h : ℕ) (hdu : HduParts) : Type 0 where
  pub name : ExtensionName
  pub called : name_in h hdu ≡ Some name
  pub again : IsNameOfAnother file h name

-- the code is among those of a place of HDU h, which is 0 for the HDU as a whole: those of its header, of its data and of its sums, or
-- that it is called as another is
abbrev pub IsCodeAt : FileParts → ℕ → Shape → HduParts → ℕ → Code → Type 0
IsCodeAt file h shape hdu zero code =
    Contains (whole_codes shape hdu) code ⊎ ((code ≡ DuplicateExtension) × HasNameOfAnother file h hdu)
IsCodeAt file h shape hdu (suc index) code = (index < length hdu.header.cards) × Contains (codes_at shape hdu.header.cards (suc index)) code

-- the HDU of a problem is there, its cards describe a shape, and the code is among those of the place
pub record IsWrong (file : FileParts) (problem : Problem) : Type 0 where
  pub hdu : HduParts
  pub shape : Shape
  pub there : hdu_of file problem.hdu ≡ Some hdu
  pub described : shape_of (is_primary_hdu problem.hdu) hdu.header.cards ≡ Ok shape
  pub code : IsCodeAt file problem.hdu shape hdu problem.place problem.code

-- bytes follow the last HDU, and the problem says so
abbrev pub IsTrailing : FileParts → Problem → Type 0
IsTrailing file problem = (is_followed file.tail ≡ true) × (problem ≡ trails (length file.hdus + 1))
