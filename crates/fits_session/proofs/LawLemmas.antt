-- An accepted edit leaves a file.
use Rattle.std.proofs.Common.{◌≡◌, ℕ, ◌≤◌, Bool, true, false, List, length, refl, ap, sym, ◌∙◌, subst, arith, All, Option, None, Some, zero, suc}
use Rattle.std.specs.Prelude.{Result, Ok, Err, if◌then◌else◌}
use Rattle.std.specs.List.{slice_get}
use Rattle.fits_card.specs.Change.{cards_after, new_cards}
use Rattle.fits_card.specs.Header.{IsInnerCard}
use Rattle.fits_card.specs.declared.change.Change.{Change}
use Rattle.fits_rules.specs.Shape.{shape_of}
use Rattle.fits_rules.specs.declared.array_shape.Shape.{Shape}
use Rattle.fits_passing.specs.Hdu.{HduParts, hdu_after, hdu_bytes, IsHdu, keeps_shape}
use Rattle.fits_hdu.specs.Stamp.{stamped}
use Rattle.fits_hdu.specs.NewImage.{new_image}
use Rattle.fits_image.specs.declared.kind.Kind.{Kind}
use Rattle.fits_hdu.specs.declared.pixel_fault.PixelFault.{PixelFault}
use Rattle.fits_hdu.proofs.NewImageLemmas.{new_is_hdu}
use Rattle.fits_hdu.specs.Pixels.{painted}
use Rattle.fits_hdu.proofs.PixelLemmas.{painted_hdu}
use Rattle.fits_hdu.proofs.StampingLemmas.{stamped_is_hdu}
use Rattle.fits_making.specs.CardEdit.{change_of}
use Rattle.fits_session.specs.Edit.{hdu_edited, hdu_of, file_after, with_hdu, with_new_hdu, without_hdu, HasSizes}
use Rattle.fits_passing.specs.File.{is_primary_hdu, FileParts, file_bytes, IsFileOf, IsFile}
use Rattle.fits_making.specs.HduEdit.{made_or, hdu_changed, hdu_made, pixels_made, shaped, HasHduSizes}
use Rattle.fits_edit.specs.Paint.{plane_paint}
use Rattle.fits_making.specs.Keeping.{padded_if, stamp_follows, stamped_if}
use Rattle.fits_passing.specs.Limits.{is_within_limits}
use Rattle.fits_session.specs.Marked.{Marked, edit_keeps, is_kept, marked_after, marked_refusal}
use Rattle.fits_passing.specs.declared.limits.TheConstants.{FILE_LIMIT}
use Rattle.fits_session.specs.Refusal.{made_refusal, new_image_refusal, refusal_in, refusal_of, removal_refusal}
use Rattle.fits_edit.specs.declared.edit.Edit.{Edit}
use Rattle.fits_edit.specs.declared.edit.Edit.TheVariants.{Hdu, NewImage, RemoveHdu}
use Rattle.fits_edit.specs.declared.hdu_edit.HduEdit.{HduEdit}
use Rattle.fits_edit.specs.declared.hdu_edit.HduEdit.TheVariants.{Cards, Keep, Pixels, Release, Reshape, Stamp}
use Rattle.fits_making.specs.declared.refusal.Refusal.{Refusal}
use Rattle.fits_making.specs.declared.refusal.Refusal.TheVariants as refusal
use Rattle.fits_making.proofs.CardEditLemmas.{made_inner}
use Rattle.fits_session.proofs.ChangeLemmas.{changed_at-both, hdu_is}
use Rattle.fits_session.proofs.EditLemmas.{length_changed, other_kept}
use Rattle.fits_making.proofs.KeepingLemmas.{finished_short, finished_whole}
use Rattle.fits_session.proofs.GuardLemmas.{else_none}
use Rattle.fits_session.proofs.ListEditLemmas.{inserted_is_a_file, new_passes, removed_is_a_file}
use Rattle.fits_making.proofs.MakingLemmas.{kept_whole, limit_none, within_limits}
use Rattle.fits_making.proofs.ReshapeEditLemmas.{reshape_whole}

-- a change that is taken keeps the shape
taken : (kept : Bool) (hdu made : HduParts) → ◌≡◌ {A = Result HduParts Refusal} (if kept then Ok hdu else Err refusal.Shape) (Ok made) → (kept ≡ true) × (hdu ≡ made)
taken true hdu made e = (refl, cc)
taken false hdu made e = cc

-- an HDU whose cards were changed is one
changed_whole : (primary : Bool) (hdu new : HduParts) (made : Result Change Refusal) → IsHdu primary hdu → ((change : Change) → made ≡ Ok change → All IsInnerCard (new_cards change)) → hdu_changed primary hdu made ≡ Ok new → IsHdu primary new
changed_whole primary hdu new (Err why) whole inner e = cc
changed_whole primary hdu new (Ok change) whole inner e =
    let p = taken (keeps_shape primary hdu.header.cards (cards_after hdu.header.cards change)) (hdu_after change hdu) new e in
    subst (λ (u : HduParts). IsHdu primary u) p.1 (kept_whole primary hdu change whole (inner change refl) p.0)

-- and one that was made by its shape
shaped_whole : (primary : Bool) (hdu new : HduParts) (said : Result Shape ℕ) (make : Shape → Result HduParts PixelFault) → shape_of primary hdu.header.cards ≡ said → ((shape : Shape) → shape_of primary hdu.header.cards ≡ Ok shape → make shape ≡ Ok new → IsHdu primary new)
    → shaped said make ≡ Ok new → IsHdu primary new
shaped_whole primary hdu new (Err place) make is law e = cc
shaped_whole primary hdu new (Ok shape) make is law e = done (make shape) refl e
  where
    done : (made : Result HduParts PixelFault) → make shape ≡ made → pixels_made made ≡ Ok new → IsHdu primary new
    done (Err why) at e = cc
    done (Ok other) at e = let same : other ≡ new = cc in law shape is (at ∙ ap Ok same)

-- what an edit makes of an HDU is one
pub made_whole : (primary : Bool) (edit : HduEdit) (hdu new : HduParts) → HasHduSizes edit → IsHdu primary hdu → hdu_made primary edit hdu ≡ Ok new → IsHdu primary new
unfolding hdu_made
made_whole primary (Cards edit) hdu new sizes whole e = changed_whole primary hdu new (change_of hdu.header.cards edit) whole (λ change made. made_inner hdu.header.cards edit change sizes made) e
made_whole primary (Pixels lo hi paint) hdu new sizes whole e =
    shaped_whole primary hdu new (shape_of primary hdu.header.cards) (λ shape. painted shape lo hi (plane_paint paint) hdu) refl (λ shape described made. (painted_hdu primary shape hdu lo hi (plane_paint paint) new whole described made).0) e
made_whole primary (Reshape kind axes) hdu new sizes whole e = reshape_whole primary kind axes hdu new whole e
made_whole primary Stamp hdu new sizes whole e = subst (λ (u : HduParts). IsHdu primary u) (let same : stamped hdu ≡ new = cc in same) (stamped_is_hdu primary hdu whole)
made_whole primary Keep hdu new sizes whole e = subst (λ (u : HduParts). IsHdu primary u) (let same : stamped hdu ≡ new = cc in same) (stamped_is_hdu primary hdu whole)
made_whole primary Release hdu new sizes whole e = subst (λ (u : HduParts). IsHdu primary u) (let same : hdu ≡ new = cc in same) whole

-- what is made of an HDU and stamped where it is to be, and keeps to the limits, leaves a file
made_kept : (stamps : Bool) (f : List ℕ) (file : FileParts) (edit : HduEdit) (i : ℕ) (hdu : HduParts) (made : Result HduParts Refusal) → HasHduSizes edit → IsFileOf f file → slice_get file.hdus i ≡ Some hdu → hdu_made (is_primary_hdu (suc i)) edit hdu ≡ made → made_refusal stamps file (suc i) made ≡ None
    → IsFile (with_hdu (with_hdu file (suc i) (hdu_edited (is_primary_hdu (suc i)) edit)) (suc i) (stamped_if stamps))
made_kept stamps f file edit i hdu (Err why) sizes p there is e = cc
made_kept stamps f file edit i hdu (Ok new) sizes p there is e =
    let primary : Bool = is_primary_hdu (suc i) in
    let change : HduParts → HduParts = hdu_edited primary edit in
    let both : HduParts → HduParts = λ u. stamped_if stamps (change u) in
    let done : both hdu ≡ stamped_if stamps new = ap (λ m. stamped_if stamps (made_or hdu m)) is in
    let whole : IsHdu primary hdu = hdu_is f file.hdus file.tail i hdu p.front there in
    let mid : IsHdu primary new = made_whole primary edit hdu new sizes whole is in
    let left : IsHdu primary (both hdu) = subst (λ (u : HduParts). IsHdu primary u) (sym done) (finished_whole stamps primary new mid) in
    let after : FileParts = with_hdu file (suc i) (λ u. padded_if stamps new) in
    let short = within_limits (length (file_bytes after)) (length after.hdus) (limit_none (is_within_limits (length (file_bytes after)) (length after.hdus)) e) in
    let size : length (file_bytes (with_hdu file (suc i) both)) ≤ FILE_LIMIT = omega (
      arith,
      short.0,
      length_changed file i hdu (λ u. padded_if stamps new) there,
      length_changed file i hdu both there,
      finished_short stamps primary new mid,
      ap (λ (u : HduParts). length (hdu_bytes u)) done,
    ) in
    let twice = ap (λ (us : List HduParts). let after : FileParts = record { hdus = us; tail = file.tail } in after) (changed_at-both i change (stamped_if stamps) file.hdus) in
    subst (λ (g : FileParts). IsFile g) (sym twice) (other_kept f file i hdu both p there left size)

-- an accepted edit of an HDU leaves a file, if the HDU is there
hdu_accepted : (stamps : Bool) (f : List ℕ) (file : FileParts) (h : ℕ) (edit : HduEdit) (hdu : Option HduParts) → HasHduSizes edit → IsFileOf f file → hdu_of file h ≡ hdu → refusal_in stamps file h edit hdu ≡ None → IsFile (with_hdu (with_hdu file h (hdu_edited (is_primary_hdu h) edit)) h (stamped_if stamps))
hdu_accepted stamps f file h edit None sizes p there e = cc
hdu_accepted stamps f file zero edit (Some hdu) sizes p there e = cc
hdu_accepted stamps f file (suc i) edit (Some hdu) sizes p there e = made_kept stamps f file edit i hdu (hdu_made (is_primary_hdu (suc i)) edit hdu) sizes p there refl e

-- an accepted new image leaves a file
image_accepted : (f : List ℕ) (file : FileParts) (h : ℕ) (kind : Kind) (axes : List ℕ) → IsFileOf f file → new_image_refusal file h kind axes ≡ None → IsFile (with_new_hdu file h (new_image kind axes))
image_accepted f file h kind axes p e =
    let tests = new_passes file h kind axes e in
    inserted_is_a_file f file h (new_image kind axes) p tests.0 (new_is_hdu kind axes tests.1) tests.2

-- an HDU that may go leaves a file, if it is there
removal_accepted : (f : List ℕ) (file : FileParts) (h : ℕ) (hdu : Option HduParts) → IsFileOf f file → hdu_of file h ≡ hdu → removal_refusal h hdu ≡ None → IsFile (without_hdu file h)
removal_accepted f file h None p there e = cc
removal_accepted f file h (Some hdu) p there e = removed_is_a_file f file h hdu p there e

-- an accepted edit leaves a file
pub edited : (it : Marked) (edit : Edit) → HasSizes edit → IsFile it.file → marked_refusal it edit ≡ None → IsFile (marked_after it edit).file
unfolding marked_refusal marked_after refusal_of file_after
edited it (Hdu h edit) sizes p e = hdu_accepted (stamp_follows edit (is_kept it.kept h)) (file_bytes it.file) it.file h edit (hdu_of it.file h) sizes p refl (else_none it.tables (edit_keeps it.file (Hdu h edit)) _ e)
edited it (NewImage at kind axes) sizes p e = image_accepted (file_bytes it.file) it.file at kind axes p e
edited it (RemoveHdu h) sizes p e = removal_accepted (file_bytes it.file) it.file h (hdu_of it.file h) p refl e
