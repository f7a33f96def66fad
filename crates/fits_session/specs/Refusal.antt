-- When an edit is refused: the first of its tests that fails (own).
use Rattle.std.specs.Prelude.{◌≡◌, ℕ, ◌+◌, ◌==◌, Bool, false, not, List, length, Option, Some, None, Result, Ok, Err, if◌then◌else◌}
use Rattle.fits_passing.specs.Hdu.{HduParts}
use Rattle.fits_image.specs.ImageCards.{are_axes}
use Rattle.fits_hdu.specs.NewImage.{new_image}
use Rattle.fits_image.specs.declared.kind.Kind.{Kind}
use Rattle.fits_making.specs.CardEdit.{is_within}
use Rattle.fits_session.specs.Edit.{hdu_of, with_hdu, with_new_hdu}
use Rattle.fits_passing.specs.File.{is_primary_hdu, FileParts, file_bytes}
use Rattle.fits_making.specs.HduEdit.{hdu_made}
use Rattle.fits_making.specs.Keeping.{padded_if}
use Rattle.fits_edit.specs.declared.edit.Edit.{Edit}
use Rattle.fits_edit.specs.declared.edit.Edit.TheVariants.{Hdu, NewImage, RemoveHdu}
use Rattle.fits_edit.specs.declared.hdu_edit.HduEdit.{HduEdit}
use Rattle.fits_making.specs.declared.refusal.Refusal.{Refusal}
use Rattle.fits_making.specs.declared.refusal.Refusal.TheVariants.{NoHdu, Shape, PrimaryStays, TooLarge}
use Rattle.fits_making.specs.Refusal.{limit_refusal, HduNeedsMemory, OrStampNeedsMemory}

-- a file would
abbrev pub size_refusal : FileParts → Option Refusal
size_refusal file = limit_refusal (length (file_bytes file)) (length file.hdus)

-- the tests of an edit of HDU h, by what it makes of it, where a stamp follows or not: its own, and then the limits, with room for the
-- stamp. (An HDU that doesn't grow passes them, but every row may have them.)
abbrev pub made_refusal : Bool → FileParts → ℕ → Result HduParts Refusal → Option Refusal
made_refusal stamps file h (Err why) = Some why
made_refusal stamps file h (Ok made) = size_refusal (with_hdu file h (λ hdu. padded_if stamps made))

-- HDU 1 stays
abbrev pub primary_refusal : ℕ → Option Refusal
primary_refusal h = if h == 1 then Some PrimaryStays else None

-- the tests of a new image that will be HDU h, in this order
unfoldable pub new_image_refusal : FileParts → ℕ → Kind → List ℕ → Option Refusal
new_image_refusal file h kind axes =
    if not (is_within h (length file.hdus + 1)) then Some NoHdu
    else if h == 1 then Some PrimaryStays
    else if not (are_axes axes) then Some Shape
    else size_refusal (with_new_hdu file h (new_image kind axes))

-- the tests of an edit of HDU h, if it is there
abbrev pub refusal_in : Bool → FileParts → ℕ → HduEdit → Option HduParts → Option Refusal
refusal_in stamps file h edit None = Some NoHdu
refusal_in stamps file h edit (Some hdu) = made_refusal stamps file h (hdu_made (is_primary_hdu h) edit hdu)

-- the tests of taking HDU h out, if it is there
abbrev pub removal_refusal : ℕ → Option HduParts → Option Refusal
removal_refusal h None = Some NoHdu
removal_refusal h (Some hdu) = primary_refusal h

-- the first refusal of an edit, if it is refused, in a file of which no HDU is kept stamped
unfoldable pub refusal_of : FileParts → Edit → Option Refusal
refusal_of file (Hdu h edit) = refusal_in false file h edit (hdu_of file h)
refusal_of file (NewImage at kind axes) = new_image_refusal file at kind axes
refusal_of file (RemoveHdu h) = removal_refusal h (hdu_of file h)

-- and of a new image: none, or that it would be too large
abbrev pub NewNeedsMemory : Option Refusal → Type 0
NewNeedsMemory None = Unit {0}
NewNeedsMemory (Some TooLarge) = Unit {0}
NewNeedsMemory (Some why) = ⊥

-- and of an edit, where a stamp follows or not: taking an HDU out takes none
abbrev pub EditNeedsMemory : Bool → Edit → Option Refusal → Type 0
EditNeedsMemory stamps (Hdu h edit) refused = OrStampNeedsMemory stamps (HduNeedsMemory edit) refused
EditNeedsMemory stamps (NewImage at kind axes) refused = NewNeedsMemory refused
EditNeedsMemory stamps (RemoveHdu h) refused = ⊥
