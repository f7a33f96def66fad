-- Both sums are right in each HDU that is kept; changes without more cards pass no limit.
use Rattle.std.proofs.Common.{◌≡◌, ℕ, ◌+◌, ◌-◌, Bool, List, length, refl, arith, All, replicate, [], ◌∷◌, ap, sym, ◌∙◌, Some, zero, suc, ◌≤◌, true, false, Option, None, get_or, subst}
use Rattle.std.proofs.lemmas.List.{length-append}
use Rattle.fits_card.specs.Change.{cards_after, new_cards}
use Rattle.fits_card.specs.Header.{IsInnerCard, header_bytes, header_length, fill_length}
use Rattle.fits_card.specs.declared.change.Change.{Change}
use Rattle.fits_card.proofs.HeaderLemmas.{whole-with_cards}
use Rattle.fits_passing.specs.Hdu.{HduParts, hdu_after, hdu_bytes, IsHdu}
use Rattle.fits_hdu.proofs.ChangeLemmas.{inner_after}
use Rattle.fits_making.proofs.MakingLemmas.{header_long, kept_limits}
use Rattle.std.specs.List.{slice_get, insert, remove}
use Rattle.fits_session.specs.Edit.{changed_at, changed_of, hdu_edited, hdu_of, file_after, with_hdu, HasSizes}
use Rattle.fits_passing.specs.File.{is_primary_hdu, FileParts, file_bytes, IsFileOf, IsFile}
use Rattle.fits_making.specs.HduEdit.{made_or, hdu_made, HasHduSizes}
use Rattle.std.specs.Prelude.{not, if◌then◌else◌, Result, Ok, Err, IsOk}
use Rattle.fits_image.specs.declared.kind.Kind.{Kind}
use Rattle.fits_making.specs.CardEdit.{is_within}
use Rattle.fits_session.specs.Refusal.{new_image_refusal, made_refusal, refusal_in, refusal_of, size_refusal}
use Rattle.fits_making.specs.declared.refusal.Refusal.{Refusal}
use Rattle.fits_making.specs.declared.refusal.Refusal.TheVariants as refusal
use Rattle.fits_session.proofs.ListEditLemmas.{in_range}
use Rattle.fits_hdu.specs.Stamp.{stamped}
use Rattle.fits_passing.specs.Sums.{verdicts_of}
use Rattle.fits_hdu.specs.NewImage.{new_image}
use Rattle.fits_hdu.proofs.VerdictLemmas.{stamped_right}
use Rattle.fits_making.specs.Keeping.{both_right, kept_after, stamp_follows, stamped_if}
use Rattle.fits_session.specs.Marked.{Marked, edit_keeps, is_kept, marked_after, marked_refusal}
use Rattle.fits_session.proofs.GuardLemmas.{else_none}
use Rattle.fits_laws.specs.Edits.{AreRight}
use Rattle.fits_passing.specs.declared.limits.TheConstants.{FILE_LIMIT, HDU_LIMIT}
use Rattle.fits_edit.specs.declared.edit.Edit.{Edit}
use Rattle.fits_edit.specs.declared.edit.Edit.TheVariants.{Hdu, NewImage, RemoveHdu}
use Rattle.fits_edit.specs.declared.hdu_edit.HduEdit.{HduEdit}
use Rattle.fits_edit.specs.declared.hdu_edit.HduEdit.TheVariants.{Cards, Keep, Pixels, Release, Reshape, Stamp}
use Rattle.fits_session.proofs.ChangeLemmas.{changed_at-both, hdu_is, length-changed}
use Rattle.fits_session.proofs.EditLemmas.{length_changed}
use Rattle.fits_making.proofs.KeepingLemmas.{finished_right, no_longer}
use Rattle.fits_session.proofs.LawLemmas.{made_whole}

-- how many bytes an HDU has with its cards changed
pub length_cards : (primary : Bool) (hdu : HduParts) (change : Change) → IsHdu primary hdu → All IsInnerCard (new_cards change) → length (hdu_bytes (hdu_after change hdu)) + header_length (length hdu.header.cards) ≡ length (hdu_bytes hdu) + header_length (length (cards_after hdu.header.cards change))
length_cards primary hdu change whole inner =
    let cards : List (List ℕ) = cards_after hdu.header.cards change in
    let left = whole-with_cards hdu.header cards (replicate (fill_length (length cards)) 32) (length cards) whole.header (inner_after hdu.header.cards change whole.header.cards inner) refl refl in
    omega (
      arith,
      length-append (header_bytes hdu.header) hdu.data_unit,
      length-append (header_bytes (hdu_after change hdu).header) hdu.data_unit,
      header_long hdu.header whole.header,
      header_long (hdu_after change hdu).header left,
    )

-- two changes that make the same of an element make the same of the list
pub changed_at-same : {X : Type 0} (i : ℕ) (first second : X → X) (x : X) (xs : List X) → slice_get xs i ≡ Some x → first x ≡ second x → changed_at i first xs ≡ changed_at i second xs
changed_at-same i first second x [] e same = refl
changed_at-same zero first second x (y ∷ ys) e same = let is : y ≡ x = cc in ap (λ z. z ∷ ys) (ap first is ∙ same ∙ ap second (sym is))
changed_at-same (suc i) first second x (y ∷ ys) e same = ap (λ zs. y ∷ zs) (changed_at-same i first second x ys e same)

-- a new image that isn't refused has one
passes_within : (b : Bool) (next : Option Refusal) → (if not b then Some refusal.NoHdu else next) ≡ None → b ≡ true
passes_within true next e = refl
passes_within false next e = cc

-- a new image stands in the list, or at its end
pub new_within : (file : FileParts) (h : ℕ) (kind : Kind) (axes : List ℕ) → new_image_refusal file h kind axes ≡ None → h - 1 ≤ length file.hdus
unfolding new_image_refusal
new_within file h kind axes e =
    let r = in_range h (length file.hdus + 1) (passes_within (is_within h (length file.hdus + 1)) _ e) in
    omega (arith, r.1)

-- both sums are right in the HDUs of a list that marks name
abbrev AreRightIn : List HduParts → List Bool → Type 0
AreRightIn hdus kept = (i : ℕ) (hdu : HduParts) → slice_get hdus i ≡ Some hdu → get_or kept i false ≡ true → verdicts_of hdu ≡ both_right

-- and still where one of them changed, and its sums are right where it is kept then
right_changed : (i : ℕ) (hdus : List HduParts) (kept : List Bool) (change : HduParts → HduParts) (mark : Bool → Bool) → AreRightIn hdus kept → ((hdu : HduParts) → slice_get hdus i ≡ Some hdu → mark (get_or kept i false) ≡ true → verdicts_of (change hdu) ≡ both_right)
    → AreRightIn (changed_at i change hdus) (changed_at i mark kept)
right_changed i [] kept change mark right own j hdu there on = cc
right_changed zero (u ∷ us) [] change mark right own j hdu there on = cc
right_changed (suc i) (u ∷ us) [] change mark right own j hdu there on = cc
right_changed zero (u ∷ us) (k ∷ ks) change mark right own zero hdu there on = let same : change u ≡ hdu = cc in subst (λ (v : HduParts). verdicts_of v ≡ both_right) same (own u refl on)
right_changed zero (u ∷ us) (k ∷ ks) change mark right own (suc j) hdu there on = right (suc j) hdu there on
right_changed (suc i) (u ∷ us) (k ∷ ks) change mark right own zero hdu there on = right zero hdu there on
right_changed (suc i) (u ∷ us) (k ∷ ks) change mark right own (suc j) hdu there on = right_changed i us ks change mark (λ n v at m. right (suc n) v at m) own j hdu there on

-- where one is put in that isn't kept
right_inserted : (i : ℕ) (hdus : List HduParts) (kept : List Bool) (new : HduParts) → i ≤ length hdus → AreRightIn hdus kept → AreRightIn (insert hdus i new) (insert kept i false)
right_inserted zero hdus kept new within right zero hdu there on = cc
right_inserted zero hdus kept new within right (suc j) hdu there on = right j hdu there on
right_inserted (suc i) [] kept new within right j hdu there on = absurd (omega (arith, within))
right_inserted (suc i) (u ∷ us) [] new within right zero hdu there on = cc
right_inserted (suc i) (u ∷ us) [] new within right (suc j) hdu there on = cc
right_inserted (suc i) (u ∷ us) (k ∷ ks) new within right zero hdu there on = right zero hdu there on
right_inserted (suc i) (u ∷ us) (k ∷ ks) new within right (suc j) hdu there on = right_inserted i us ks new (omega (arith, within)) (λ n v at m. right (suc n) v at m) j hdu there on

-- and where one goes
right_left : (i : ℕ) (hdus : List HduParts) (kept : List Bool) → AreRightIn hdus kept → AreRightIn (remove hdus i) (remove kept i)
right_left zero [] kept right j hdu there on = cc
right_left (suc i) [] kept right j hdu there on = cc
right_left zero (u ∷ us) [] right j hdu there on = cc
right_left (suc i) (u ∷ us) [] right j hdu there on = cc
right_left zero (u ∷ us) (k ∷ ks) right j hdu there on = right (suc j) hdu there on
right_left (suc i) (u ∷ us) (k ∷ ks) right zero hdu there on = right zero hdu there on
right_left (suc i) (u ∷ us) (k ∷ ks) right (suc j) hdu there on = right_left i us ks (λ n v at m. right (suc n) v at m) j hdu there on

-- what an edit and its stamp leave of an HDU that is kept then has both sums right
pub edited_right : (primary : Bool) (edit : HduEdit) (kept : Bool) (hdu : HduParts) (made : Result HduParts Refusal) (stamps : Bool) → HasHduSizes edit → IsHdu primary hdu → hdu_made primary edit hdu ≡ made → IsOk made → kept_after edit kept ≡ true → stamp_follows edit kept ≡ stamps → verdicts_of (stamped_if stamps (made_or hdu made)) ≡ both_right
unfolding hdu_made
edited_right primary edit kept hdu (Err why) stamps sizes whole is ok on follows = cc
edited_right primary (Cards edit) kept hdu (Ok new) stamps sizes whole is ok on follows = finished_right stamps primary new (stamped_if stamps new) (made_whole primary (Cards edit) hdu new sizes whole is) refl (sym follows ∙ on)
edited_right primary (Pixels lo hi paint) kept hdu (Ok new) stamps sizes whole is ok on follows = finished_right stamps primary new (stamped_if stamps new) (made_whole primary (Pixels lo hi paint) hdu new sizes whole is) refl (sym follows ∙ on)
edited_right primary (Reshape kind axes) kept hdu (Ok new) stamps sizes whole is ok on follows = finished_right stamps primary new (stamped_if stamps new) (made_whole primary (Reshape kind axes) hdu new sizes whole is) refl (sym follows ∙ on)
edited_right primary Stamp kept hdu (Ok new) stamps sizes whole is ok on follows =
    let same : stamped hdu ≡ new = cc in
    ap (λ b. verdicts_of (stamped_if b new)) (sym follows) ∙ (ap verdicts_of (sym same) ∙ stamped_right primary hdu whole)
edited_right primary Keep kept hdu (Ok new) stamps sizes whole is ok on follows =
    let same : stamped hdu ≡ new = cc in
    ap (λ b. verdicts_of (stamped_if b new)) (sym follows) ∙ (ap verdicts_of (sym same) ∙ stamped_right primary hdu whole)
edited_right primary Release kept hdu (Ok new) stamps sizes whole is ok on follows = cc

-- an edit that isn't refused makes something
pub accepted_ok : (stamps : Bool) (file : FileParts) (h : ℕ) (made : Result HduParts Refusal) → made_refusal stamps file h made ≡ None → IsOk made
accepted_ok stamps file h (Ok new) e = refl
accepted_ok stamps file h (Err why) e = cc

-- so an edit of an HDU leaves them right
hdu_right : (it : Marked) (h : ℕ) (edit : HduEdit) (found : Option HduParts) → HasHduSizes edit → IsFile it.file → AreRightIn it.file.hdus it.kept → hdu_of it.file h ≡ found → refusal_in (stamp_follows edit (is_kept it.kept h)) it.file h edit found ≡ None
    → AreRightIn (changed_of h (stamped_if (stamp_follows edit (is_kept it.kept h))) (changed_of h (hdu_edited (is_primary_hdu h) edit) it.file.hdus)) (changed_of h (kept_after edit) it.kept)
hdu_right it h edit None sizes p right there e = absurd (cc)
hdu_right it zero edit (Some hdu) sizes p right there e = absurd (cc)
hdu_right it (suc i) edit (Some hdu) sizes p right there e =
    let primary : Bool = is_primary_hdu (suc i) in
    let kept : Bool = get_or it.kept i false in
    let stamps : Bool = stamp_follows edit kept in
    let change : HduParts → HduParts = hdu_edited primary edit in
    let both : HduParts → HduParts = λ u. stamped_if stamps (change u) in
    let whole : IsHdu primary hdu = hdu_is (file_bytes it.file) it.file.hdus it.file.tail i hdu p.front there in
    let own : (u : HduParts) → slice_get it.file.hdus i ≡ Some u → kept_after edit kept ≡ true → verdicts_of (both u) ≡ both_right = λ u at on.
    let same : hdu ≡ u = (let z : Option.Some hdu ≡ Some u = sym there ∙ at in cc) in
    subst (λ (v : HduParts). verdicts_of (both v) ≡ both_right) same
    (edited_right primary edit kept hdu (hdu_made primary edit hdu) stamps sizes whole refl (accepted_ok stamps it.file (suc i) (hdu_made primary edit hdu) e) on refl) in
    subst (λ (us : List HduParts). AreRightIn us (changed_at i (kept_after edit) it.kept)) (sym (changed_at-both i change (stamped_if stamps) it.file.hdus))
    (right_changed i it.file.hdus it.kept both (kept_after edit) right own)

-- from HDUs by their numbers to those of the list
right_in : (it : Marked) → AreRight it → AreRightIn it.file.hdus it.kept
right_in it right i hdu there on = right (suc i) hdu there on

-- and back
right_of : (it : Marked) → AreRightIn it.file.hdus it.kept → AreRight it
right_of it right zero hdu there on = cc
right_of it right (suc i) hdu there on = right i hdu there on

-- an accepted edit leaves both sums right in the HDUs that are kept
pub stay_right : (it : Marked) (edit : Edit) → HasSizes edit → IsFile it.file → AreRight it → marked_refusal it edit ≡ None → AreRight (marked_after it edit)
unfolding marked_refusal marked_after refusal_of file_after
stay_right it (Hdu h edit) sizes p right e = right_of (marked_after it (Hdu h edit)) (hdu_right it h edit (hdu_of it.file h) sizes p (right_in it right) refl (else_none it.tables (edit_keeps it.file (Hdu h edit)) _ e))
stay_right it (NewImage at kind axes) sizes p right e =
    right_of (marked_after it (NewImage at kind axes)) (right_inserted (at - 1) it.file.hdus it.kept (new_image kind axes) (new_within it.file at kind axes e) (right_in it right))
stay_right it (RemoveHdu h) sizes p right e = right_of (marked_after it (RemoveHdu h)) (right_left (h - 1) it.file.hdus it.kept (right_in it right))

-- a change that leaves no more cards passes no limit
pub fewer_cards : (f : List ℕ) (file : FileParts) (h : ℕ) (hdu : HduParts) (change : Change) → IsFileOf f file → hdu_of file h ≡ Some hdu → All IsInnerCard (new_cards change) → length (cards_after hdu.header.cards change) ≤ length hdu.header.cards → size_refusal (with_hdu file h (hdu_after change)) ≡ None
fewer_cards f file zero hdu change p there inner fewer = cc
fewer_cards f file (suc i) hdu change p there inner fewer =
    let whole : IsHdu (is_primary_hdu (suc i)) hdu = hdu_is f file.hdus file.tail i hdu p.front there in
    let after : FileParts = with_hdu file (suc i) (hdu_after change) in
    let bytes : length (file_bytes after) ≤ FILE_LIMIT =
    omega (arith, length_changed file i hdu (hdu_after change) there, length_cards (is_primary_hdu (suc i)) hdu change whole inner, no_longer (length (cards_after hdu.header.cards change)) (length hdu.header.cards) fewer, ap length p.front.joined, p.size) in
    let hdus : length after.hdus ≤ HDU_LIMIT = omega (arith, length-changed i (hdu_after change) file.hdus, p.count) in
    rw (kept_limits (length (file_bytes after)) (length after.hdus) bytes hdus) refl
