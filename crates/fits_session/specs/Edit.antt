-- Edits: the file after each (own).
use Rattle.std.specs.Prelude.{ℕ, ◌-◌, Bool, List, [], ◌∷◌, Option, None, zero, suc}
use Rattle.std.specs.List.{slice_get, insert, remove}
use Rattle.fits_passing.specs.Hdu.{HduParts}
use Rattle.fits_hdu.specs.NewImage.{new_image}
use Rattle.fits_passing.specs.File.{FileParts, is_primary_hdu}
use Rattle.fits_making.specs.HduEdit.{hdu_made, HasHduSizes, made_or}
use Rattle.fits_edit.specs.declared.edit.Edit.{Edit}
use Rattle.fits_edit.specs.declared.edit.Edit.TheVariants.{Hdu, NewImage, RemoveHdu}
use Rattle.fits_edit.specs.declared.hdu_edit.HduEdit.{HduEdit}

-- HDU h, from 1, if it is there
abbrev pub hdu_of : FileParts → ℕ → Option HduParts
hdu_of file zero = None
hdu_of file (suc h) = slice_get file.hdus h

-- the list with its element at index i, from 0, changed
abbrev pub changed_at : {X : Type 0} → ℕ → (X → X) → List X → List X
changed_at i change [] = []
changed_at zero change (x ∷ xs) = change x ∷ xs
changed_at (suc i) change (x ∷ xs) = x ∷ changed_at i change xs

-- the list with what belongs to HDU h changed, if it is there
abbrev pub changed_of : {X : Type 0} → ℕ → (X → X) → List X → List X
changed_of zero change xs = xs
changed_of (suc h) change xs = changed_at h change xs

-- the file with HDU h changed
abbrev pub with_hdu : FileParts → ℕ → (HduParts → HduParts) → FileParts
with_hdu file h change = record file { hdus = changed_of h change file.hdus }

-- an HDU after an edit; one that isn't made leaves it
abbrev pub hdu_edited : Bool → HduEdit → HduParts → HduParts
hdu_edited primary edit hdu = made_or hdu (hdu_made primary edit hdu)

-- the file with one more HDU, which will be HDU h; it and those after it move up
abbrev pub with_new_hdu : FileParts → ℕ → HduParts → FileParts
with_new_hdu file h hdu = record file { hdus = insert file.hdus (h - 1) hdu }

-- the file without HDU h; those after it move down
abbrev pub without_hdu : FileParts → ℕ → FileParts
without_hdu file h = record file { hdus = remove file.hdus (h - 1) }

-- the file after an edit
unfoldable pub file_after : FileParts → Edit → FileParts
file_after file (Hdu h edit) = with_hdu file h (hdu_edited (is_primary_hdu h) edit)
file_after file (NewImage at kind axes) = with_new_hdu file at (new_image kind axes)
file_after file (RemoveHdu h) = without_hdu file h

-- the cards and names that it brings have their sizes
abbrev pub HasSizes : Edit → Type 0
HasSizes (Hdu h edit) = HasHduSizes edit
HasSizes edit = Unit {0}
