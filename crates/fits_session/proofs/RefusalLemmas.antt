-- No test refuses an edit for memory.
use Rattle.std.proofs.Common.{◌≡◌, ℕ, ◌+◌, refl, ap, [], ◌∷◌, length, Bool, true, false, List, Option, None, Some}
use Rattle.std.specs.Prelude.{◌==◌, if◌then◌else◌, not, Result, Ok, Err}
use Rattle.fits_card.specs.Change.{cards_after}
use Rattle.fits_card.specs.declared.change.Change.{Change}
use Rattle.fits_card.specs.Name.{is_settable}
use Rattle.fits_card.specs.declared.change.Change.TheVariants.{Splice}
use Rattle.fits_card.specs.declared.change.Change.TheVariants as change
use Rattle.fits_value.specs.Written.{write_says}
use Rattle.fits_plane.specs.declared.lent_paint.LentPaint.{LentPaint}
use Rattle.fits_rules.specs.Shape.{shape_of}
use Rattle.fits_rules.specs.declared.array_shape.Shape.{Shape}
use Rattle.fits_plane.specs.Paint.{can_store_paint, has_count}
use Rattle.fits_plane.specs.Rectangle.{lies_within, rectangle_size}
use Rattle.fits_passing.specs.Hdu.{HduParts, hdu_after, keeps_shape}
use Rattle.fits_hdu.specs.Keyword.{keyword_cards, replacing}
use Rattle.fits_image.specs.Kind.{kind_in, offset_of, width_of}
use Rattle.fits_image.specs.ImageCards.{are_axes}
use Rattle.fits_hdu.specs.NewImage.{new_image}
use Rattle.fits_hdu.specs.Pixels.{painted, painted_by}
use Rattle.fits_hdu.specs.Stamp.{stamped}
use Rattle.fits_hdu.specs.declared.keyword_cards.KeywordCards.{KeywordCards}
use Rattle.fits_image.specs.declared.kind.Kind.{Kind}
use Rattle.fits_hdu.specs.declared.pixel_fault.PixelFault.{PixelFault}
use Rattle.fits_hdu.specs.declared.pixel_fault.PixelFault.TheVariants as pixel
use Rattle.fits_making.specs.CardEdit.{change_of, is_within, set_of, setting}
use Rattle.fits_session.specs.Edit.{hdu_of, with_hdu, with_new_hdu}
use Rattle.fits_passing.specs.File.{is_primary_hdu, FileParts, file_bytes}
use Rattle.fits_making.specs.HduEdit.{hdu_changed, hdu_made, hdu_reshaped, pixels_made, shaped}
use Rattle.fits_making.specs.Keeping.{padded_if, stamp_follows}
use Rattle.fits_passing.specs.Limits.{is_within_limits}
use Rattle.fits_session.specs.Marked.{Marked, edit_keeps, is_kept, marked_refusal}
use Rattle.fits_session.proofs.GuardLemmas.{else_memory}
use Rattle.fits_session.specs.Refusal.{made_refusal, new_image_refusal, refusal_in, refusal_of, removal_refusal, size_refusal}
use Rattle.fits_edit.specs.Paint.{plane_paint}
use Rattle.fits_edit.specs.declared.card_edit.CardEdit.{CardEdit}
use Rattle.fits_edit.specs.declared.card_edit.CardEdit.TheVariants.{Insert, Put, Delete, Move, Set, Unset}
use Rattle.fits_edit.specs.declared.edit.Edit.{Edit}
use Rattle.fits_edit.specs.declared.edit.Edit.TheVariants.{Hdu, NewImage, RemoveHdu}
use Rattle.fits_edit.specs.declared.hdu_edit.HduEdit.{HduEdit}
use Rattle.fits_edit.specs.declared.hdu_edit.HduEdit.TheVariants.{Cards, Keep, Pixels, Release, Reshape, Stamp}
use Rattle.fits_making.specs.declared.refusal.Refusal.{Refusal}
use Rattle.fits_making.specs.declared.refusal.Refusal.TheVariants.{NoHdu, BadName, BadValue, NotImage, BadRect, WrongCount, Range, PrimaryStays, TooLarge, Memory}
use Rattle.fits_making.specs.declared.refusal.Refusal.TheVariants as refusal
use Rattle.fits_making.proofs.ReshapeEditLemmas.{reshape_firm}
use Rattle.fits_making.proofs.FirmLemmas.{IsFirm, firm_choice, firm_none, IsOther, firm_some, FirmChange, firm_tested, firm_either, firm_refused, firm_made, firm_unset}

-- written cards instead of a keyword's
firm_setting : (count : ℕ) (old : Option KeywordCards) (new : Option (List (List ℕ))) → FirmChange (setting count old new)
firm_setting count old None = firm_refused BadValue (λ e. cc)
firm_setting count old (Some new) = firm_made (replacing count old new)

-- the change of each edit
firm_change : (cards : List (List ℕ)) (edit : CardEdit) → FirmChange (change_of cards edit)
unfolding change_of set_of
firm_change cards (Insert place card) = firm_tested (length cards) (Splice place 0 (card ∷ []))
firm_change cards (Put place card) = firm_tested (length cards) (Splice place 1 (card ∷ []))
firm_change cards (Delete place) = firm_tested (length cards) (Splice place 1 [])
firm_change cards (Move from to) = firm_tested (length cards) (change.Move from to)
firm_change cards (Set name value comment) =
    firm_either (is_settable name) _ (Err BadName) (firm_setting (length cards) (keyword_cards cards name) (write_says name value comment)) (firm_refused BadName (λ e. cc))
firm_change cards (Unset name) = firm_unset cards name

-- nor is what an edit makes of an HDU
FirmMade : Result HduParts Refusal → Type 0
FirmMade made = made ≡ Err Memory → ⊥

-- an HDU that is made
firm_hdu : (hdu : HduParts) → FirmMade (Ok hdu)
unfolding FirmMade
firm_hdu hdu e = absurd (cc)

-- one that is refused
firm_no_hdu : (why : Refusal) → IsOther why → FirmMade (Err why)
unfolding FirmMade
firm_no_hdu why other e = other (same why e)
  where
    same : (why : Refusal) → ◌≡◌ {A = Result HduParts Refusal} (Err why) (Err Memory) → why ≡ Memory
    same why e = cc

-- of two neither
firm_kept : (test : Bool) (a b : Result HduParts Refusal) → FirmMade a → FirmMade b → FirmMade (if test then a else b)
firm_kept true a b p q = p
firm_kept false a b p q = q

-- an HDU with its cards changed
firm_changed : (primary : Bool) (hdu : HduParts) (made : Result Change Refusal) → FirmChange made → FirmMade (hdu_changed primary hdu made)
unfolding FirmChange
firm_changed primary hdu (Err why) firm = firm_no_hdu why (λ e. firm (ap Err e))
firm_changed primary hdu (Ok change) firm =
    firm_kept (keeps_shape primary hdu.header.cards (cards_after hdu.header.cards change)) (Ok (hdu_after change hdu)) (Err refusal.Shape) (firm_hdu (hdu_after change hdu)) (firm_no_hdu refusal.Shape (λ e. cc))

-- a test of pixels that fails isn't out of memory
FirmPixels : {X : Type 0} → Result X PixelFault → Type 0
FirmPixels made = made ≡ Err pixel.Memory → ⊥

-- pixels that are made, and each fault of them that the tests can have
firm_pixels : (made : Result HduParts PixelFault) → FirmPixels made → FirmMade (pixels_made made)
unfolding FirmPixels
firm_pixels (Ok made) firm = firm_hdu made
firm_pixels (Err pixel.NotImage) firm = firm_no_hdu NotImage (λ e. cc)
firm_pixels (Err pixel.BadRectangle) firm = firm_no_hdu BadRect (λ e. cc)
firm_pixels (Err pixel.WrongCount) firm = firm_no_hdu WrongCount (λ e. cc)
firm_pixels (Err pixel.OutOfRange) firm = firm_no_hdu Range (λ e. cc)
firm_pixels (Err pixel.Memory) firm = absurd (firm refl)

-- of two choices neither
firm_pick : {X : Type 0} (test : Bool) (a b : Result X PixelFault) → FirmPixels a → FirmPixels b → FirmPixels (if test then a else b)
firm_pick true a b p q = p
firm_pick false a b p q = q

-- a fault of its own
firm_fault : (X : Type 0) (why : PixelFault) → (why ≡ pixel.Memory → ⊥) → FirmPixels {X = X} (Err why)
unfolding FirmPixels
firm_fault X why other e = other (same why e)
  where
    same : (why : PixelFault) → ◌≡◌ {A = Result X PixelFault} (Err why) (Err pixel.Memory) → why ≡ pixel.Memory
    same why e = cc

-- pixels that are made
firm_done : {X : Type 0} (made : X) → FirmPixels (Ok made)
unfolding FirmPixels
firm_done made e = absurd (cc)

-- the tests of a rectangle that is painted
firm_tested_paint : (kind : Option Kind) (shape : Shape) (lo hi : List ℕ) (paint : LentPaint) (hdu : HduParts) → FirmPixels (painted_by kind shape lo hi paint hdu)
firm_tested_paint None shape lo hi paint hdu = firm_fault _ pixel.NotImage (λ e. cc)
firm_tested_paint (Some kind) shape lo hi paint hdu =
    firm_pick (not (lies_within shape.axes lo hi)) (Err pixel.BadRectangle) _ (firm_fault _ pixel.BadRectangle (λ e. cc))
    (firm_pick (not (has_count paint (rectangle_size lo hi))) (Err pixel.WrongCount) _ (firm_fault _ pixel.WrongCount (λ e. cc))
    (firm_pick (not (can_store_paint (width_of kind) (offset_of kind) paint)) (Err pixel.OutOfRange) _ (firm_fault _ pixel.OutOfRange (λ e. cc)) (firm_done _)))

-- a rectangle that is painted
firm_painted : (shape : Shape) (lo hi : List ℕ) (paint : LentPaint) (hdu : HduParts) → FirmPixels (painted shape lo hi paint hdu)
unfolding painted
firm_painted shape lo hi paint hdu = firm_tested_paint (kind_in shape hdu.header.cards) shape lo hi paint hdu

-- what is made by a shape
firm_shaped : (said : Result Shape ℕ) (make : Shape → Result HduParts PixelFault) → ((shape : Shape) → FirmPixels (make shape)) → FirmMade (shaped said make)
firm_shaped (Ok shape) make firm = firm_pixels (make shape) (firm shape)
firm_shaped (Err place) make firm = firm_no_hdu NotImage (λ e. cc)

-- what is made another array
firm_reshaped : (said : Result Shape ℕ) (kind : Kind) (axes : List ℕ) (hdu : HduParts) → FirmMade (hdu_reshaped said kind axes hdu)
unfolding FirmMade
firm_reshaped said kind axes hdu = reshape_firm said kind axes hdu

-- what each edit makes of an HDU
firm_made_of : (primary : Bool) (edit : HduEdit) (hdu : HduParts) → FirmMade (hdu_made primary edit hdu)
unfolding hdu_made
firm_made_of primary (Cards edit) hdu = firm_changed primary hdu (change_of hdu.header.cards edit) (firm_change hdu.header.cards edit)
firm_made_of primary (Pixels lo hi paint) hdu = firm_shaped (shape_of primary hdu.header.cards) (λ shape. painted shape lo hi (plane_paint paint) hdu) (λ shape. firm_painted shape lo hi (plane_paint paint) hdu)
firm_made_of primary (Reshape kind axes) hdu = firm_reshaped (shape_of primary hdu.header.cards) kind axes hdu
firm_made_of primary Stamp hdu = firm_hdu (stamped hdu)
firm_made_of primary Keep hdu = firm_hdu (stamped hdu)
firm_made_of primary Release hdu = firm_hdu hdu

-- the tests of a file's size
firm_size : (file : FileParts) → IsFirm (size_refusal file)
firm_size file = firm_choice (is_within_limits (length (file_bytes file)) (length file.hdus)) None (Some TooLarge) firm_none (firm_some TooLarge (λ e. cc))

-- the tests of what is made of an HDU
firm_tests : (stamps : Bool) (file : FileParts) (h : ℕ) (made : Result HduParts Refusal) → FirmMade made → IsFirm (made_refusal stamps file h made)
unfolding IsFirm FirmMade
firm_tests stamps file h (Err why) firm = λ e. firm (let same : why ≡ Memory = cc in ap Err same)
firm_tests stamps file h (Ok made) firm = firm_size (with_hdu file h (λ hdu. padded_if stamps made))

-- the tests of an edit, whether its HDU is there or not
firm_edit : (stamps : Bool) (file : FileParts) (h : ℕ) (edit : HduEdit) (hdu : Option HduParts) → IsFirm (refusal_in stamps file h edit hdu)
firm_edit stamps file h edit None = firm_some NoHdu (λ e. cc)
firm_edit stamps file h edit (Some hdu) = firm_tests stamps file h (hdu_made (is_primary_hdu h) edit hdu) (firm_made_of (is_primary_hdu h) edit hdu)

-- the tests of taking an HDU out
firm_removal : (h : ℕ) (hdu : Option HduParts) → IsFirm (removal_refusal h hdu)
firm_removal h None = firm_some NoHdu (λ e. cc)
firm_removal h (Some hdu) = firm_choice (h == 1) (Some PrimaryStays) None (firm_some PrimaryStays (λ e. cc)) firm_none

-- the tests of a new image
firm_new : (file : FileParts) (h : ℕ) (kind : Kind) (axes : List ℕ) → IsFirm (new_image_refusal file h kind axes)
unfolding new_image_refusal
firm_new file h kind axes =
    firm_choice (not (is_within h (length file.hdus + 1))) (Some NoHdu) _ (firm_some NoHdu (λ e. cc))
    (firm_choice (h == 1) (Some PrimaryStays) _ (firm_some PrimaryStays (λ e. cc))
    (firm_choice (not (are_axes axes)) (Some refusal.Shape) _ (firm_some refusal.Shape (λ e. cc)) (firm_size (with_new_hdu file h (new_image kind axes)))))

-- no edit of any file is refused for memory, whatever HDUs are kept stamped
pub never_memory : (it : Marked) (edit : Edit) → marked_refusal it edit ≡ Some Memory → ⊥
unfolding IsFirm marked_refusal refusal_of
never_memory it (Hdu h edit) = λ e. firm_edit (stamp_follows edit (is_kept it.kept h)) it.file h edit (hdu_of it.file h) (else_memory it.tables (edit_keeps it.file (Hdu h edit)) _ e)
never_memory it (NewImage at kind axes) = firm_new it.file at kind axes
never_memory it (RemoveHdu h) = firm_removal h (hdu_of it.file h)
