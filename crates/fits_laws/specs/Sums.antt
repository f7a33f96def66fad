-- The sums of HDUs under edits, one after another: which stay right, and which stay as they were (FITS Standard 4.0, section 4.4.2.7;
-- own). What is said of each HDU is listed, one beside another, and goes with its HDU where others come and go.
use Rattle.std.specs.Prelude.{◌≡◌, ℕ, ◌-◌, ◌&&◌, Bool, true, false, List, [], ◌∷◌, codes, drop, map, take, Option, None, Some, is_none, Result, Ok, Err, if◌then◌else◌}
use Rattle.std.specs.List.{insert, remove}
use Rattle.fits_card.specs.Change.{only_item}
use Rattle.fits_card.specs.declared.change.Change.{Change}
use Rattle.fits_card.specs.declared.change.Change.TheVariants as change
use Rattle.fits_rules.specs.Lead.{lead_card}
use Rattle.fits_passing.specs.Hdu.{HduParts}
use Rattle.fits_passing.specs.Sums.{verdicts_of}
use Rattle.fits_passing.specs.declared.verdicts.Verdicts.{Verdicts}
use Rattle.fits_making.specs.CardEdit.{change_of}
use Rattle.fits_session.specs.Edit.{changed_of, hdu_of, HasSizes}
use Rattle.fits_passing.specs.File.{FileParts, IsFile}
use Rattle.fits_making.specs.Keeping.{are_right, both_right, vouch}
use Rattle.fits_session.specs.Marked.{Marked, is_kept, kept_in, marked_after, marked_refusal, marks_after, vouched}
use Rattle.fits_session.specs.Query.{in_hdu}
use Rattle.fits_making.specs.declared.refusal.Refusal.{Refusal}
use Rattle.fits_laws.specs.Edits.{AreRight}
use Rattle.fits_edit.specs.declared.edit.Edit.{Edit}
use Rattle.fits_edit.specs.declared.edit.Edit.TheVariants.{Hdu, NewImage, RemoveHdu}
use Rattle.fits_edit.specs.declared.hdu_edit.HduEdit.{HduEdit}
use Rattle.fits_edit.specs.declared.hdu_edit.HduEdit.TheVariants.{Cards, Keep, Stamp}

-- two lists are as long, and this holds of what stands beside one another
abbrev pub Beside : {X Y : Type 0} → (X → Y → Type 0) → List X → List Y → Type 0
Beside R [] [] = Unit {0}
Beside R [] (y ∷ ys) = ⊥
Beside R (x ∷ xs) [] = ⊥
Beside R (x ∷ xs) (y ∷ ys) = R x y × Beside R xs ys

-- each of these edits is accepted in its turn
abbrev pub AreAccepted : Marked → List Edit → Type 0
AreAccepted it [] = Unit {0}
AreAccepted it (edit ∷ edits) = HasSizes edit × (marked_refusal it edit ≡ None) × AreAccepted (marked_after it edit) edits

-- a file and its marks after them
abbrev pub marked_after_each : Marked → List Edit → Marked
marked_after_each it [] = it
marked_after_each it (edit ∷ edits) = marked_after_each (marked_after it edit) edits

-- marks after them: each goes with its HDU, and a release takes it away
abbrev pub marks_after_each : List Bool → List Edit → List Bool
marks_after_each marks [] = marks
marks_after_each marks (edit ∷ edits) = marks_after_each (marks_after marks edit) edits

-- one mark says no more than another
abbrev pub Implies : Bool → Bool → Type 0
Implies mark other = mark ≡ true → other ≡ true

-- where an HDU is marked this holds of its sums
abbrev pub MarkedHolds : (Verdicts → Bool) → HduParts → Bool → Type 0
MarkedHolds holds hdu mark = mark ≡ true → holds (verdicts_of hdu) ≡ true

-- this holds of the sums of the HDUs with these marks, and all of them are kept
pub record AreKeptSo (holds : Verdicts → Bool) (it : Marked) (marks : List Bool) : Type 0 where
  pub sums : Beside (MarkedHolds holds) it.file.hdus marks
  pub kept : Beside Implies marks it.kept

-- the HDUs of a file both of whose sums are right
abbrev pub right_marks : FileParts → List Bool
right_marks file = map (λ (hdu : HduParts). are_right (verdicts_of hdu)) file.hdus

-- the two cards of sums: the leads of DATASUM and of CHECKSUM
pub record SumCards : Type 0 where
  pub datasum : Option (List ℕ)
  pub checksum : Option (List ℕ)

-- those of an HDU
abbrev pub sum_cards : HduParts → SumCards
sum_cards hdu = record { datasum = lead_card hdu.header.cards (codes "DATASUM "); checksum = lead_card hdu.header.cards (codes "CHECKSUM") }

-- no card has one of these names and a value
abbrev pub has_no_sum : List (List ℕ) → Bool
has_no_sum cards = is_none (lead_card cards (codes "DATASUM ")) && is_none (lead_card cards (codes "CHECKSUM"))

-- a change takes no such card out, puts none in and moves none
abbrev pub passes_sums : List (List ℕ) → Result Change Refusal → Bool
passes_sums cards (Ok (change.Splice place removed new)) = has_no_sum (take removed (drop (place - 1) cards)) && has_no_sum new
passes_sums cards (Ok (change.Move from to)) = has_no_sum (only_item cards from)
passes_sums cards (Err why) = true

-- an edit of an HDU is no stamp, and where it changes cards it is such a change
abbrev pub leaves_sums : HduEdit → Option HduParts → Bool
leaves_sums (Cards edit) (Some hdu) = passes_sums hdu.header.cards (change_of hdu.header.cards edit)
leaves_sums Stamp hdu = false
leaves_sums Keep hdu = false
leaves_sums edit hdu = true

-- what is known of the cards of sums after an edit: where it doesn't leave them, and of a new HDU, nothing is
abbrev pub known_after : Marked → List (Option SumCards) → Edit → List (Option SumCards)
known_after it known (Hdu h edit) = changed_of h (λ cards. if leaves_sums edit (hdu_of it.file h) then cards else None) known
known_after it known (NewImage at kind axes) = insert known (at - 1) None
known_after it known (RemoveHdu h) = remove known (h - 1)

-- the same after edits
abbrev pub known_after_each : Marked → List (Option SumCards) → List Edit → List (Option SumCards)
known_after_each it known [] = known
known_after_each it known (edit ∷ edits) = known_after_each (marked_after it edit) (known_after it known edit) edits

-- the cards of sums of an HDU are those that are known, if any are
abbrev pub HasKnown : HduParts → Option SumCards → Type 0
HasKnown hdu known = (cards : SumCards) → known ≡ Some cards → sum_cards hdu ≡ cards

-- then it isn't kept
abbrev pub IsFree : Option SumCards → Bool → Type 0
IsFree known kept = (cards : SumCards) → known ≡ Some cards → kept ≡ false

-- these are the cards of sums of HDUs that aren't kept
pub record AreKnown (it : Marked) (known : List (Option SumCards)) : Type 0 where
  pub cards : Beside HasKnown it.file.hdus known
  pub free : Beside IsFree known it.kept

-- those of an HDU whose sums don't vouch for it
abbrev pub unvouched_cards : HduParts → Option SumCards
unvouched_cards hdu = if vouch (verdicts_of hdu) then None else Some (sum_cards hdu)

-- what holds of right sums, and of those of marked HDUs that are kept, holds after edits, wherever the HDUs stand then: a stamp follows each
-- edit of one
abbrev pub RightSumsStay : Type 0
RightSumsStay =
    (holds : Verdicts → Bool) (it : Marked) (marks : List Bool) (edits : List Edit)
    → holds both_right ≡ true → IsFile it.file → AreAccepted it edits → AreKeptSo holds it marks
    → AreKeptSo holds (marked_after_each it edits) (marks_after_each marks edits)

-- the cards of sums that are known stay, byte for byte, and their HDUs aren't kept
abbrev pub OtherSumsStay : Type 0
OtherSumsStay =
    (it : Marked) (known : List (Option SumCards)) (edits : List Edit)
    → AreKnown it known → AreKnown (marked_after_each it edits) (known_after_each it known edits)

-- where those HDUs are kept whose sums vouch for them: of these they do, those with right sums are among them, and the cards of the
-- others are known
pub record IsVouched (file : FileParts) : Type 0 where
  pub sound : AreKeptSo vouch (vouched file) (vouched file).kept
  pub right : AreKeptSo are_right (vouched file) (right_marks file)
  pub others : AreKnown (vouched file) (map unvouched_cards file.hdus)

-- where both sums are right in each HDU that is kept, it is said to be where it is marked
abbrev pub KeptIsTheMark : Type 0
KeptIsTheMark = (it : Marked) (h : ℕ) → AreRight it → kept_in it h ≡ in_hdu (λ hdu. Ok (is_kept it.kept h)) (hdu_of it.file h)
