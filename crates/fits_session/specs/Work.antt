-- How many cards edits and queries read (own).
use Rattle.std.specs.Prelude.{ℕ, ◌+◌, Bool, if◌then◌else◌, List, Option, None, Some, Result, Ok, Err}
use Rattle.std.specs.Option.{option_map_or}
use Rattle.fits_passing.specs.Hdu.{HduParts}
use Rattle.fits_hdu.specs.Work.{keyword_reads}
use Rattle.fits_passing.specs.Work.{name_reads}
use Rattle.fits_session.specs.Edit.{hdu_of}
use Rattle.fits_passing.specs.File.{is_primary_hdu, FileParts}
use Rattle.fits_making.specs.HduEdit.{hdu_made}
use Rattle.fits_making.specs.Keeping.{stamp_follows}
use Rattle.fits_session.specs.Marked.{Marked, is_kept}
use Rattle.fits_edit.specs.HduEdit.{may_rename}
use Rattle.fits_edit.specs.declared.hdu_edit.HduEdit.{HduEdit}
use Rattle.fits_making.specs.declared.refusal.Refusal.{Refusal}
use Rattle.fits_making.specs.Work.{hdu_reads, follow_up_reads}

-- how many cards are read after an edit that makes something of an HDU, to know what it is called then
abbrev pub follow_reads : HduEdit → Result HduParts Refusal → ℕ
follow_reads edit (Ok made) = if may_rename edit then name_reads else 0
follow_reads edit (Err why) = 0

-- how many cards an edit of an HDU reads at most in all, where a stamp follows or not
abbrev pub reads_in_all : (stamps primary : Bool) → HduEdit → HduParts → ℕ
reads_in_all stamps primary edit hdu =
    let made : Result HduParts Refusal = hdu_made primary edit hdu in
    hdu_reads primary edit hdu + follow_up_reads stamps made + follow_reads edit made

-- how many cards an edit of HDU h reads at most, none where it isn't there
abbrev pub edit_reads : Marked → ℕ → HduEdit → ℕ
edit_reads it h edit = option_map_or (reads_in_all (stamp_follows edit (is_kept it.kept h)) (is_primary_hdu h) edit) (hdu_of it.file h) 0

-- how many cards a keyword of an HDU is read by at most, none where the HDU isn't there
abbrev pub reads_in : Option HduParts → List ℕ → ℕ
reads_in None name = 0
reads_in (Some hdu) name = keyword_reads hdu.header.cards name

-- how many cards the query of a value reads at most
abbrev pub value_reads : FileParts → ℕ → List ℕ → ℕ
value_reads file h name = reads_in (hdu_of file h) name
