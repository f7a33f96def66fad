-- Sums under edits, one after another: which stay right, and which stay as they were.
use Rattle.std.proofs.Common.{◌≡◌, ℕ, zero, suc, ◌-◌, Bool, true, false, List, [], ◌∷◌, get_or, refl, ap, sym, subst, ◌∙◌, Option, None, Some}
use Rattle.std.specs.Prelude.{◌&&◌, not, if◌then◌else◌, Ok}
use Rattle.std.specs.List.{slice_get}
use Rattle.fits_passing.specs.Hdu.{HduParts, IsHdu}
use Rattle.fits_hdu.specs.NewImage.{new_image}
use Rattle.fits_passing.specs.Sums.{verdicts_of}
use Rattle.fits_passing.specs.declared.verdict.Verdict.{Verdict}
use Rattle.fits_passing.specs.declared.verdict.Verdict.TheVariants.{Right, Missing, Wrong}
use Rattle.fits_passing.specs.declared.verdicts.Verdicts.{Verdicts}
use Rattle.fits_edit.specs.declared.edit.Edit.{Edit}
use Rattle.fits_edit.specs.declared.edit.Edit.TheVariants.{Hdu, NewImage, RemoveHdu}
use Rattle.fits_edit.specs.declared.hdu_edit.HduEdit.{HduEdit}
use Rattle.fits_edit.specs.declared.hdu_edit.HduEdit.TheVariants.{Cards, Keep, Pixels, Release, Reshape, Stamp}
use Rattle.fits_session.specs.Edit.{changed_at, file_after, hdu_edited, hdu_of, HasSizes}
use Rattle.fits_passing.specs.File.{is_primary_hdu, FileParts, file_bytes, IsFile}
use Rattle.fits_making.specs.HduEdit.{hdu_made, HasHduSizes}
use Rattle.fits_making.specs.Keeping.{are_right, both_right, is_right, is_wrong, kept_after, stamp_follows, stamped_if, vouch}
use Rattle.fits_session.specs.Marked.{Marked, edit_keeps, is_kept, marked_after, marked_refusal, marks_after}
use Rattle.fits_session.proofs.GuardLemmas.{else_none}
use Rattle.fits_session.specs.Query.{in_hdu}
use Rattle.fits_session.specs.Refusal.{refusal_in}
use Rattle.fits_session.proofs.ChangeLemmas.{changed_at-both, hdu_is}
use Rattle.fits_session.proofs.LawLemmas.{edited}
use Rattle.fits_laws.specs.Sums.{AreKeptSo, AreKnown, Beside, HasKnown, Implies, IsFree, IsVouched, KeptIsTheMark, MarkedHolds, OtherSumsStay, RightSumsStay, SumCards, known_after, leaves_sums, sum_cards, unvouched_cards}
use Rattle.fits_laws.proofs.BesideLemmas.{beside_at, beside_changed, beside_inserted, beside_left, beside_made, beside_map}
use Rattle.fits_laws.proofs.RightLemmas.{accepted_ok, edited_right}
use Rattle.fits_laws.proofs.SumCardLemmas.{edit_leaves}

-- a mark that says no more than another does so after an edit
implies_after : (edit : HduEdit) (mark other : Bool) → Implies mark other → Implies (kept_after edit mark) (kept_after edit other)
implies_after (Cards edit) mark other p = p
implies_after (Pixels lo hi paint) mark other p = p
implies_after (Reshape kind axes) mark other p = p
implies_after Stamp mark other p = p
implies_after Keep mark other p = λ on. refl
implies_after Release mark other p = λ on. on

-- an element that is there is read
read_at : (marks : List Bool) (i : ℕ) (mark : Bool) → slice_get marks i ≡ Some mark → get_or marks i false ≡ mark
read_at [] i mark e = absurd (cc)
read_at (m ∷ marks) zero mark e = cc
read_at (m ∷ marks) (suc i) mark e = read_at marks i mark e

-- what holds of right sums holds of a marked HDU after an edit, if it did before
module _ (holds : Verdicts → Bool) (good : holds both_right ≡ true) (it : Marked) (marks : List Bool) (p : AreKeptSo holds it marks) where
  -- an edit of an HDU that is there
  hdu_keeps : (i : ℕ) (edit : HduEdit) (found : Option HduParts) → HasHduSizes edit → IsFile it.file → slice_get it.file.hdus i ≡ found → refusal_in (stamp_follows edit (get_or it.kept i false)) it.file (suc i) edit found ≡ None
      → Beside (MarkedHolds holds) (changed_at i (stamped_if (stamp_follows edit (get_or it.kept i false))) (changed_at i (hdu_edited (is_primary_hdu (suc i)) edit) it.file.hdus)) (changed_at i (kept_after edit) marks)
  hdu_keeps i edit None sizes whole there e = absurd (cc)
  hdu_keeps i edit (Some hdu) sizes whole there e =
      let primary : Bool = is_primary_hdu (suc i) in
      let kept : Bool = get_or it.kept i false in
      let stamps : Bool = stamp_follows edit kept in
      let change : HduParts → HduParts = hdu_edited primary edit in
      let both : HduParts → HduParts = λ u. stamped_if stamps (change u) in
      let one : IsHdu primary hdu = hdu_is (file_bytes it.file) it.file.hdus it.file.tail i hdu whole.front there in
      let right : kept_after edit kept ≡ true → verdicts_of (both hdu) ≡ both_right = λ on.
      edited_right primary edit kept hdu (hdu_made primary edit hdu) stamps sizes one refl (accepted_ok stamps it.file (suc i) (hdu_made primary edit hdu) e) on refl in
      let own : (u : HduParts) (mark : Bool) → slice_get it.file.hdus i ≡ Some u → slice_get marks i ≡ Some mark → MarkedHolds holds u mark → MarkedHolds holds (both u) (kept_after edit mark) = λ u mark at marked was on.
      let same : hdu ≡ u = (let z : Option.Some hdu ≡ Some u = sym there ∙ at in cc) in
      let other = beside_at Implies i mark marks it.kept marked p.kept in
      let also : kept_after edit kept ≡ true = ap (kept_after edit) (read_at it.kept i other.0 other.1) ∙ implies_after edit mark other.0 other.2 on in
      subst (λ (v : HduParts). holds (verdicts_of (both v)) ≡ true) same (ap holds (right also) ∙ good) in
      subst (λ (us : List HduParts). Beside (MarkedHolds holds) us (changed_at i (kept_after edit) marks)) (sym (changed_at-both i change (stamped_if stamps) it.file.hdus))
      (beside_changed (MarkedHolds holds) i both (kept_after edit) it.file.hdus marks own p.sums)

  -- any edit
  keeps_one : (edit : Edit) → HasSizes edit → IsFile it.file → marked_refusal it edit ≡ None → AreKeptSo holds (marked_after it edit) (marks_after marks edit)
  unfolding marked_refusal marked_after file_after
  keeps_one (Hdu zero edit) sizes whole e = absurd (let z = else_none it.tables (edit_keeps it.file (Hdu zero edit)) _ e in cc)
  keeps_one (Hdu (suc i) edit) sizes whole e = record {
    sums = hdu_keeps i edit (slice_get it.file.hdus i) sizes whole refl (else_none it.tables (edit_keeps it.file (Hdu (suc i) edit)) _ e);
    kept = beside_changed Implies i (kept_after edit) (kept_after edit) marks it.kept (λ mark other a b q. implies_after edit mark other q) p.kept;
  }
  keeps_one (NewImage at kind axes) sizes whole e = record {
    sums = beside_inserted (MarkedHolds holds) (at - 1) (new_image kind axes) false it.file.hdus marks (λ on. absurd (cc)) p.sums;
    kept = beside_inserted Implies (at - 1) false false marks it.kept (λ on. on) p.kept;
  }
  keeps_one (RemoveHdu h) sizes whole e = record {
    sums = beside_left (MarkedHolds holds) (h - 1) it.file.hdus marks p.sums;
    kept = beside_left Implies (h - 1) marks it.kept p.kept;
  }

-- and after edits, one after another
pub right_sums_stay : RightSumsStay
right_sums_stay holds it marks [] good whole accepted p = p
right_sums_stay holds it marks (edit ∷ edits) good whole accepted p =
    right_sums_stay holds (marked_after it edit) (marks_after marks edit) edits good (edited it edit accepted.0 whole accepted.1) accepted.2
    (keeps_one holds good it marks p edit accepted.0 whole accepted.1)

-- cards that are known still, where an edit leaves them
known_if : (b : Bool) (known : Option SumCards) (cards : SumCards) → (if b then known else None) ≡ Some cards → (b ≡ true) × (known ≡ Some cards)
known_if true known cards e = (refl, e)
known_if false known cards e = absurd (cc)

-- an HDU that isn't kept isn't after such an edit
free_after : (edit : HduEdit) (hdu : Option HduParts) (kept : Bool) → leaves_sums edit hdu ≡ true → kept ≡ false → kept_after edit kept ≡ false
free_after (Cards edit) hdu kept e free = free
free_after (Pixels lo hi paint) hdu kept e free = free
free_after (Reshape kind axes) hdu kept e free = free
free_after Stamp hdu kept e free = free
free_after Keep hdu kept e free = absurd (cc)
free_after Release hdu kept e free = refl

-- and no stamp follows
never_stamped : (edit : HduEdit) (kept : Bool) → kept ≡ false → stamp_follows edit kept ≡ false
never_stamped (Cards edit) kept free = free
never_stamped (Pixels lo hi paint) kept free = free
never_stamped (Reshape kind axes) kept free = free
never_stamped Stamp kept free = refl
never_stamped Keep kept free = refl
never_stamped Release kept free = refl

-- the cards of sums that are known stay after an edit
module _ (it : Marked) (known : List (Option SumCards)) (p : AreKnown it known) where
  -- in the HDU that it names
  hdu_knows : (i : ℕ) (edit : HduEdit)
      → Beside HasKnown (changed_at i (stamped_if (stamp_follows edit (get_or it.kept i false))) (changed_at i (hdu_edited (is_primary_hdu (suc i)) edit) it.file.hdus)) (changed_at i (λ cards. if leaves_sums edit (slice_get it.file.hdus i) then cards else None) known)
  hdu_knows i edit =
      let primary : Bool = is_primary_hdu (suc i) in
      let kept : Bool = get_or it.kept i false in
      let stamps : Bool = stamp_follows edit kept in
      let change : HduParts → HduParts = hdu_edited primary edit in
      let both : HduParts → HduParts = λ u. stamped_if stamps (change u) in
      let leaves : Bool = leaves_sums edit (slice_get it.file.hdus i) in
      let own : (u : HduParts) (one : Option SumCards) → slice_get it.file.hdus i ≡ Some u → slice_get known i ≡ Some one → HasKnown u one → HasKnown (both u) (if leaves then one else None) = λ u one at there was cards e.
      let still = known_if leaves one cards e in
      let mark = beside_at IsFree i one known it.kept there p.free in
      let free : kept ≡ false = read_at it.kept i mark.0 mark.1 ∙ mark.2 cards still.1 in
      ap (λ b. sum_cards (stamped_if b (change u))) (never_stamped edit kept free)
      ∙ (edit_leaves primary edit u (sym (ap (leaves_sums edit) at) ∙ still.0) ∙ was cards still.1) in
      subst (λ (us : List HduParts). Beside HasKnown us (changed_at i (λ cards. if leaves then cards else None) known)) (sym (changed_at-both i change (stamped_if stamps) it.file.hdus))
      (beside_changed HasKnown i both (λ cards. if leaves then cards else None) it.file.hdus known own p.cards)

  -- and in all
  knows_one : (edit : Edit) → AreKnown (marked_after it edit) (known_after it known edit)
  unfolding marked_after file_after
  knows_one (Hdu zero edit) = p
  knows_one (Hdu (suc i) edit) = record {
    cards = hdu_knows i edit;
    free = beside_changed IsFree i (λ cards. if leaves_sums edit (slice_get it.file.hdus i) then cards else None) (kept_after edit) known it.kept
        (λ one mark a b q cards e. let still = known_if (leaves_sums edit (slice_get it.file.hdus i)) one cards e in free_after edit (slice_get it.file.hdus i) mark still.0 (q cards still.1)) p.free;
  }
  knows_one (NewImage at kind axes) = record {
    cards = beside_inserted HasKnown (at - 1) (new_image kind axes) None it.file.hdus known (λ cards e. absurd (cc)) p.cards;
    free = beside_inserted IsFree (at - 1) None false known it.kept (λ cards e. absurd (cc)) p.free;
  }
  knows_one (RemoveHdu h) = record {
    cards = beside_left HasKnown (h - 1) it.file.hdus known p.cards;
    free = beside_left IsFree (h - 1) known it.kept p.free;
  }

-- and after edits, one after another
pub other_sums_stay : OtherSumsStay
other_sums_stay it known [] p = p
other_sums_stay it known (edit ∷ edits) p = other_sums_stay (marked_after it edit) (known_after it known edit) edits (knows_one it known p edit)

-- right sums vouch for their HDU
right_vouch : (datasum checksum : Verdict) → (is_right datasum && is_right checksum) ≡ true → (is_right checksum && not (is_wrong datasum)) ≡ true
right_vouch Right Right e = refl
right_vouch Right Missing e = absurd (cc)
right_vouch Right Wrong e = absurd (cc)
right_vouch Missing checksum e = absurd (cc)
right_vouch Wrong checksum e = absurd (cc)

-- the cards that are known of an HDU are its own
unvouched_are : (hdu : HduParts) → HasKnown hdu (unvouched_cards hdu)
unvouched_are hdu cards e = of (vouch (verdicts_of hdu)) e
  where
    of : (b : Bool) → (if b then None else Some (sum_cards hdu)) ≡ Some cards → sum_cards hdu ≡ cards
    of true e = absurd (cc)
    of false e = cc

-- and its sums don't vouch for it
unvouched_free : (hdu : HduParts) → IsFree (unvouched_cards hdu) (vouch (verdicts_of hdu))
unvouched_free hdu cards e = of (vouch (verdicts_of hdu)) e
  where
    of : (b : Bool) → (if b then None else Some (sum_cards hdu)) ≡ Some cards → b ≡ false
    of true e = absurd (cc)
    of false e = refl

-- a file whose HDUs are kept by their sums
pub is_vouched : (file : FileParts) → IsVouched file
is_vouched file = record {
  sound = record {
    sums = beside_map (MarkedHolds vouch) (λ (hdu : HduParts). vouch (verdicts_of hdu)) file.hdus (λ hdu on. on);
    kept = beside_made Implies (λ (hdu : HduParts). vouch (verdicts_of hdu)) (λ (hdu : HduParts). vouch (verdicts_of hdu)) file.hdus (λ hdu on. on);
  };
  right = record {
    sums = beside_map (MarkedHolds are_right) (λ (hdu : HduParts). are_right (verdicts_of hdu)) file.hdus (λ hdu on. on);
    kept = beside_made Implies (λ (hdu : HduParts). are_right (verdicts_of hdu)) (λ (hdu : HduParts). vouch (verdicts_of hdu)) file.hdus (λ hdu on. right_vouch (verdicts_of hdu).datasum (verdicts_of hdu).checksum on);
  };
  others = record {
    cards = beside_map HasKnown unvouched_cards file.hdus unvouched_are;
    free = beside_made IsFree unvouched_cards (λ (hdu : HduParts). vouch (verdicts_of hdu)) file.hdus unvouched_free;
  };
}

-- a mark is what is said where both sums are right
mark_said : (mark : Bool) (verdicts : Verdicts) → (mark ≡ true → verdicts ≡ both_right) → (mark && are_right verdicts) ≡ mark
mark_said true verdicts right = ap are_right (right refl)
mark_said false verdicts right = refl

-- of HDU h
pub kept_is_the_mark : KeptIsTheMark
kept_is_the_mark it h right = of (hdu_of it.file h) refl
  where
    of : (found : Option HduParts) → hdu_of it.file h ≡ found → in_hdu (λ (hdu : HduParts). Ok (is_kept it.kept h && are_right (verdicts_of hdu))) found ≡ in_hdu (λ (hdu : HduParts). Ok (is_kept it.kept h)) found
    of None there = refl
    of (Some hdu) there = ap Ok (mark_said (is_kept it.kept h) (verdicts_of hdu) (right h hdu there))
