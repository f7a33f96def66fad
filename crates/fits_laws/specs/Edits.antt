-- What laws say of edits (own).
use Rattle.fits_edit.specs.declared.card_edit.CardEdit.{CardEdit}
use Rattle.fits_edit.specs.declared.card_edit.CardEdit.TheVariants.{Insert, Set}
use Rattle.std.specs.Prelude.{◌≡◌, ℕ, true, Some}
use Rattle.fits_passing.specs.Hdu.{HduParts}
use Rattle.fits_passing.specs.Sums.{verdicts_of}
use Rattle.fits_session.specs.Edit.{file_after, hdu_of}
use Rattle.fits_passing.specs.File.{FileParts}
use Rattle.fits_making.specs.Keeping.{both_right}
use Rattle.fits_session.specs.Refusal.{refusal_of}
use Rattle.fits_edit.specs.declared.edit.Edit.{Edit}
use Rattle.fits_session.specs.Marked.{Marked, is_kept, marked_after, marked_refusal, unmarked}

-- it leaves no more cards than there were: a card comes in place of another, or cards go, or one moves
abbrev pub LeavesNoMore : CardEdit → Type 0
LeavesNoMore (Insert place card) = ⊥
LeavesNoMore (Set name value comment) = ⊥
LeavesNoMore edit = Unit {0}

-- in each HDU that is kept DATASUM and CHECKSUM are right
abbrev pub AreRight : Marked → Type 0
AreRight it =
    (h : ℕ) (hdu : HduParts) → hdu_of it.file h ≡ Some hdu → is_kept it.kept h ≡ true → verdicts_of hdu ≡ both_right

-- where no HDU is kept, an edit is refused, and leaves the file, as it does without marks
abbrev pub UnmarkedArePlain : Type 0
UnmarkedArePlain =
    (file : FileParts) (edit : Edit)
    → (marked_refusal (unmarked file) edit ≡ refusal_of file edit) × ((marked_after (unmarked file) edit).file ≡ file_after file edit)
