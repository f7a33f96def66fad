-- Files some of whose HDUs are kept stamped.
use Rattle.std.proofs.Common.{◌≡◌, ℕ, zero, suc, false, List, [], ◌∷◌, length, get_or, replicate, refl, ap, ◌∙◌}
use Rattle.fits_passing.specs.Hdu.{HduParts}
use Rattle.fits_session.specs.Edit.{changed_at, changed_of, file_after, hdu_of, with_hdu}
use Rattle.fits_passing.specs.File.{FileParts}
use Rattle.fits_making.specs.Keeping.{stamp_follows, stamped_if}
use Rattle.fits_session.specs.Marked.{is_kept, marked_after, marked_refusal}
use Rattle.fits_laws.specs.Edits.{UnmarkedArePlain}
use Rattle.fits_session.specs.Refusal.{refusal_in, refusal_of}
use Rattle.fits_edit.specs.declared.edit.Edit.TheVariants.{Hdu, NewImage, RemoveHdu}
use Rattle.fits_edit.specs.declared.hdu_edit.HduEdit.{HduEdit}
use Rattle.fits_edit.specs.declared.hdu_edit.HduEdit.TheVariants.{Cards, Keep, Pixels, Release, Reshape, Stamp}

-- of marks of which none is set, none is
none_kept : (n i : ℕ) → get_or (replicate n false) i false ≡ false
none_kept zero i = refl
none_kept (suc n) zero = refl
none_kept (suc n) (suc i) = none_kept n i

-- nor by its number
unmarked_kept : (n h : ℕ) → is_kept (replicate n false) h ≡ false
unmarked_kept n zero = refl
unmarked_kept n (suc i) = none_kept n i

-- so no edit is followed by a stamp
never_stamps : (n h : ℕ) (edit : HduEdit) → stamp_follows edit (is_kept (replicate n false) h) ≡ false
never_stamps n h (Cards edit) = unmarked_kept n h
never_stamps n h (Pixels lo hi paint) = unmarked_kept n h
never_stamps n h (Reshape kind axes) = unmarked_kept n h
never_stamps n h Stamp = refl
never_stamps n h Keep = refl
never_stamps n h Release = refl

-- what nothing follows stays
same_at : (i : ℕ) (hdus : List HduParts) → changed_at i (stamped_if false) hdus ≡ hdus
same_at i [] = refl
same_at zero (hdu ∷ hdus) = refl
same_at (suc i) (hdu ∷ hdus) = ap (λ us. hdu ∷ us) (same_at i hdus)

-- the same by its number
same_of : (h : ℕ) (hdus : List HduParts) → changed_of h (stamped_if false) hdus ≡ hdus
same_of zero hdus = refl
same_of (suc i) hdus = same_at i hdus

-- and of a file
unstamped : (h : ℕ) (file : FileParts) → with_hdu file h (stamped_if false) ≡ file
unstamped h file = ap (λ (us : List HduParts). record file { hdus = us }) (same_of h file.hdus)

-- and each is as without marks
pub unmarked_are_plain : UnmarkedArePlain
unfolding marked_refusal marked_after refusal_of
unmarked_are_plain file (Hdu h edit) =
    let never = never_stamps (length file.hdus) h edit in
    (ap (λ b. refusal_in b file h edit (hdu_of file h)) never, ap (λ b. with_hdu (file_after file (Hdu h edit)) h (stamped_if b)) never ∙ unstamped h (file_after file (Hdu h edit)))
unmarked_are_plain file (NewImage at kind axes) = (refl, refl)
unmarked_are_plain file (RemoveHdu h) = (refl, refl)
