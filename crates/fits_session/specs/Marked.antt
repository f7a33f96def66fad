-- A file some of whose HDUs are kept stamped, and whose tables may be kept: what edits come to then, and when they are refused (own).
use Rattle.std.specs.Prelude.{ℕ, zero, suc, ◌-◌, ◌&&◌, ◌||◌, Bool, true, false, not, List, length, get_or, map, replicate, Option, None, Some, Result, Ok}
use Rattle.std.specs.List.{insert, remove}
use Rattle.fits_passing.specs.Hdu.{HduParts}
use Rattle.fits_passing.specs.Sums.{verdicts_of}
use Rattle.fits_session.specs.Edit.{changed_of, file_after, hdu_of, with_hdu}
use Rattle.fits_passing.specs.File.{FileParts, is_primary_hdu}
use Rattle.fits_making.specs.Columns.{cards_keep}
use Rattle.fits_making.specs.Keeping.{are_right, kept_after, stamp_follows, stamped_if, vouch}
use Rattle.fits_session.specs.Query.{in_hdu}
use Rattle.fits_session.specs.Refusal.{refusal_in, refusal_of}
use Rattle.fits_edit.specs.declared.edit.Edit.{Edit}
use Rattle.fits_edit.specs.declared.card_edit.CardEdit.{CardEdit}
use Rattle.fits_edit.specs.declared.edit.Edit.TheVariants.{Hdu, NewImage, RemoveHdu}
use Rattle.fits_edit.specs.declared.hdu_edit.HduEdit.TheVariants.{Cards}
use Rattle.fits_making.specs.declared.refusal.Refusal.{Refusal}
use Rattle.fits_making.specs.declared.refusal.Refusal.TheVariants.{Shape}

-- a file, which of its HDUs are kept stamped, and whether the columns of its tables are kept
pub record Marked : Type 0 where
  pub file : FileParts
  pub kept : List Bool
  pub tables : Bool

-- the same where they are or aren't
abbrev pub guarded : Bool → Marked → Marked
guarded tables it = record { file = it.file; kept = it.kept; tables = tables }

-- HDU h, from 1, is kept; one that isn't there is not
abbrev pub is_kept : List Bool → ℕ → Bool
is_kept kept zero = false
is_kept kept (suc i) = get_or kept i false

-- a file of which no HDU is kept stamped, nor a table
abbrev pub unmarked : FileParts → Marked
unmarked file = record { file = file; kept = replicate (length file.hdus) false; tables = false }

-- a file of which each HDU is whose sums vouch for it
abbrev pub vouched : FileParts → Marked
vouched file = record { file = file; kept = map (λ (hdu : HduParts). vouch (verdicts_of hdu)) file.hdus; tables = false }

-- whether a stamp follows an edit
abbrev pub is_stamped_after : List Bool → Edit → Bool
is_stamped_after kept (Hdu h edit) = stamp_follows edit (is_kept kept h)
is_stamped_after kept edit = false

-- which HDUs are kept after an edit: marks go with their HDUs, and a new HDU has none
abbrev pub marks_after : List Bool → Edit → List Bool
marks_after kept (Hdu h edit) = changed_of h (kept_after edit) kept
marks_after kept (NewImage at kind axes) = insert kept (at - 1) false
marks_after kept (RemoveHdu h) = remove kept (h - 1)

-- the file after an edit; what changes a kept HDU is followed by a stamp of it
abbrev pub marked_file_after : Marked → Edit → FileParts
marked_file_after it (Hdu h edit) = with_hdu (file_after it.file (Hdu h edit)) h (stamped_if (stamp_follows edit (is_kept it.kept h)))
marked_file_after it edit = file_after it.file edit

-- how an edit leaves both
unfoldable pub marked_after : Marked → Edit → Marked
marked_after it edit = record { file = marked_file_after it edit; kept = marks_after it.kept edit; tables = it.tables }

-- an edit of cards of an HDU keeps the columns of a table, if it is there
abbrev pub hdu_keeps : Bool → CardEdit → Option HduParts → Bool
hdu_keeps primary edit None = true
hdu_keeps primary edit (Some hdu) = cards_keep primary hdu.header.cards edit

-- an edit does; only one of cards may not
abbrev pub edit_keeps : FileParts → Edit → Bool
edit_keeps file (Hdu h (Cards edit)) = hdu_keeps (is_primary_hdu h) edit (hdu_of file h)
edit_keeps file edit = true

-- tables aren't kept, or an edit keeps their columns
abbrev pub is_free : Bool → FileParts → Edit → Bool
is_free tables file edit = not tables || edit_keeps file edit

-- the first refusal where tables are kept or not, by whether they stay and by what refuses the edit else: an edit that would leave
-- other columns is refused for that, as for another shape
abbrev pub column_refusal : Bool → Bool → Option Refusal → Option Refusal
column_refusal false keeps refused = refused
column_refusal true true refused = refused
column_refusal true false refused = Some Shape

-- the first refusal of an edit, if it is refused: of a kept HDU the limits have to hold with two cards more
unfoldable pub marked_refusal : Marked → Edit → Option Refusal
marked_refusal it (Hdu h edit) =
    column_refusal it.tables (edit_keeps it.file (Hdu h edit)) (refusal_in (stamp_follows edit (is_kept it.kept h)) it.file h edit (hdu_of it.file h))
marked_refusal it edit = refusal_of it.file edit

-- whether HDU h is kept, with both sums right, or its refusal
abbrev pub kept_in : Marked → ℕ → Result Bool Refusal
kept_in it h = in_hdu (λ hdu. Ok (is_kept it.kept h && are_right (verdicts_of hdu))) (hdu_of it.file h)
