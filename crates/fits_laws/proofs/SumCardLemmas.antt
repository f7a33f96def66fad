-- The cards of sums under edits of their HDU.
use Rattle.std.proofs.Common.{◌≡◌, ℕ, ◌+◌, ◌-◌, Bool, true, false, List, [], ◌++◌, codes, drop, get_or, take, refl, ap, sym, ◌∙◌, arith, Option, None, Some}
use Rattle.std.specs.Prelude.{◌&&◌, not, is_none, Result, Ok, Err, if◌then◌else◌}
use Rattle.std.specs.Option.{option_or}
use Rattle.std.proofs.lemmas.List.{drop-drop, take-append-drop}
use Rattle.fits_card.specs.Header.{Header}
use Rattle.fits_card.specs.Change.{cards_after, moved, only_item, spliced}
use Rattle.fits_card.specs.declared.change.Change.{Change}
use Rattle.fits_card.specs.declared.change.Change.TheVariants as change
use Rattle.fits_rules.specs.Lead.{lead_card, lead_place}
use Rattle.fits_rules.specs.Shape.{axis_name, shape_of}
use Rattle.fits_rules.specs.declared.array_shape.Shape.{Shape}
use Rattle.fits_header.proofs.TurnLemmas.{lead-append}
use Rattle.fits_image.specs.declared.kind.Kind.{Kind}
use Rattle.fits_passing.specs.Hdu.{HduParts, hdu_after, keeps_shape}
use Rattle.fits_plane.specs.Paint.{can_store_paint, has_count, painted_number}
use Rattle.fits_plane.specs.Rectangle.{lies_within, rectangle_size}
use Rattle.fits_plane.specs.declared.lent_paint.LentPaint.{LentPaint}
use Rattle.fits_image.specs.Kind.{kind_in, offset_of, width_of}
use Rattle.fits_hdu.specs.Pixels.{painted, painted_by, with_numbers}
use Rattle.fits_hdu.specs.Reshape.{IsOther, reshaped}
use Rattle.fits_hdu.specs.declared.pixel_fault.PixelFault.TheVariants as pixel
use Rattle.fits_hdu.specs.declared.reshape_fault.ReshapeFault.{ReshapeFault}
use Rattle.fits_hdu.proofs.OtherLeadLemmas.{reshaping_leaves_leads}
use Rattle.fits_hdu.proofs.ReshapeLemmas.{can_parts, reshaped_has_kind, reshaped_is}
use Rattle.fits_edit.specs.declared.hdu_edit.HduEdit.{HduEdit}
use Rattle.fits_edit.specs.declared.hdu_edit.HduEdit.TheVariants.{Cards, Keep, Pixels, Release, Reshape, Stamp}
use Rattle.fits_edit.specs.Paint.{plane_paint}
use Rattle.fits_making.specs.CardEdit.{change_of}
use Rattle.fits_session.specs.Edit.{hdu_edited}
use Rattle.fits_making.specs.HduEdit.{made_or, hdu_changed, hdu_made, hdu_reshaped, pixels_made, reshape_made, shaped}
use Rattle.fits_making.specs.declared.refusal.Refusal.{Refusal}
use Rattle.fits_making.specs.declared.refusal.Refusal.TheVariants as refusal
use Rattle.fits_laws.specs.Sums.{SumCards, has_no_sum, leaves_sums, passes_sums, sum_cards}

-- where both hold each does
both : (a b : Bool) → (a && b) ≡ true → (a ≡ true) × (b ≡ true)
both true b e = (refl, e)
both false b e = absurd (cc)

-- what is none is none
none_is : {X : Type 0} (found : Option X) → is_none found ≡ true → found ≡ None
none_is None e = refl
none_is (Some x) e = absurd (cc)

-- cards of no sum have no such leads
no_leads : (cards : List (List ℕ)) → has_no_sum cards ≡ true → (lead_card cards (codes "DATASUM ") ≡ None) × (lead_card cards (codes "CHECKSUM") ≡ None)
no_leads cards e =
    let parts = both (is_none (lead_card cards (codes "DATASUM "))) (is_none (lead_card cards (codes "CHECKSUM"))) e in
    (none_is (lead_card cards (codes "DATASUM ")) parts.0, none_is (lead_card cards (codes "CHECKSUM")) parts.1)

-- where no lead goes and none comes, the lead stays
lead_stays : (cards new : List (List ℕ)) (name : List ℕ) (place removed : ℕ) → lead_card (take removed (drop (place - 1) cards)) name ≡ None → lead_card new name ≡ None → lead_card (spliced cards place removed new) name ≡ lead_card cards name
lead_stays cards new name place removed gone brought =
    let front : List (List ℕ) = take (place - 1) cards in
    let taken : List (List ℕ) = take removed (drop (place - 1) cards) in
    let back : List (List ℕ) = drop (place - 1 + removed) cards in
    let rest : drop (place - 1) cards ≡ taken ++ back = sym (ap (λ xs. taken ++ xs) (sym (drop-drop removed (place - 1) cards)) ∙ take-append-drop removed (drop (place - 1) cards)) in
    let was : cards ≡ front ++ (taken ++ back) = sym (ap (λ xs. front ++ xs) (sym rest) ∙ take-append-drop (place - 1) cards) in
    let first : Option (List ℕ) = lead_card front name in
    let last : Option (List ℕ) = lead_card back name in
    let after : lead_card (front ++ (new ++ back)) name ≡ option_or first last =
    lead-append front (new ++ back) name ∙ ap (option_or first) (lead-append new back name ∙ ap (λ o. option_or o last) brought) in
    let before : lead_card (front ++ (taken ++ back)) name ≡ option_or first last =
    lead-append front (taken ++ back) name ∙ ap (option_or first) (lead-append taken back name ∙ ap (λ o. option_or o last) gone) in
    after ∙ sym before ∙ sym (ap (λ xs. lead_card xs name) was)

-- also where one of another name moves
lead_beside : (cards : List (List ℕ)) (name : List ℕ) (from to : ℕ) → lead_card [] name ≡ None → lead_card (only_item cards from) name ≡ None → lead_card (moved cards from to) name ≡ lead_card cards name
lead_beside cards name from to none other =
    lead_stays (spliced cards from 1 []) (only_item cards from) name to 0 none other ∙ lead_stays cards [] name from 1 other none

-- no card is no lead
no_card : (name : List ℕ) → lead_card [] name ≡ None
unfolding lead_card lead_place
no_card name = refl

-- so a change that passes the cards of sums leaves them
change_leaves : (cards : List (List ℕ)) (change : Change) → passes_sums cards (Ok change) ≡ true → (lead_card (cards_after cards change) (codes "DATASUM ") ≡ lead_card cards (codes "DATASUM ")) × (lead_card (cards_after cards change) (codes "CHECKSUM") ≡ lead_card cards (codes "CHECKSUM"))
unfolding cards_after
change_leaves cards (change.Splice place removed new) e =
    let parts = both (has_no_sum (take removed (drop (place - 1) cards))) (has_no_sum new) e in
    let gone = no_leads (take removed (drop (place - 1) cards)) parts.0 in
    let brought = no_leads new parts.1 in
    (lead_stays cards new (codes "DATASUM ") place removed gone.0 brought.0, lead_stays cards new (codes "CHECKSUM") place removed gone.1 brought.1)
change_leaves cards (change.Move from to) e =
    let other = no_leads (only_item cards from) e in
    (lead_beside cards (codes "DATASUM ") from to (no_card (codes "DATASUM ")) other.0, lead_beside cards (codes "CHECKSUM") from to (no_card (codes "CHECKSUM")) other.1)

-- HDUs whose leads of sums are the same have the same cards of sums
same_sums : (old new : HduParts) → lead_card new.header.cards (codes "DATASUM ") ≡ lead_card old.header.cards (codes "DATASUM ") → lead_card new.header.cards (codes "CHECKSUM") ≡ lead_card old.header.cards (codes "CHECKSUM") → sum_cards new ≡ sum_cards old
same_sums old new datasum checksum =
    ap (λ (card : Option (List ℕ)). let it : SumCards = record { datasum = card; checksum = lead_card new.header.cards (codes "CHECKSUM") } in it) datasum
    ∙ ap (λ (card : Option (List ℕ)). let it : SumCards = record { datasum = lead_card old.header.cards (codes "DATASUM "); checksum = card } in it) checksum

-- what is made of an HDU has its cards of sums
abbrev Leaves : HduParts → Result HduParts Refusal → Type 0
Leaves hdu made = sum_cards (made_or hdu made) ≡ sum_cards hdu

-- a change of its cards
leaves_changed : (primary : Bool) (hdu : HduParts) (made : Result Change Refusal) → passes_sums hdu.header.cards made ≡ true → Leaves hdu (hdu_changed primary hdu made)
leaves_changed primary hdu (Err why) e = refl
leaves_changed primary hdu (Ok change) e = by (keeps_shape primary hdu.header.cards (cards_after hdu.header.cards change))
  where
    by : (kept : Bool) → Leaves hdu (if kept then Ok (hdu_after change hdu) else Err refusal.Shape)
    by true = let stay = change_leaves hdu.header.cards change e in same_sums hdu (hdu_after change hdu) stay.0 stay.1
    by false = refl

-- painted pixels
leaves_painted : (kind : Option Kind) (shape : Shape) (lo hi : List ℕ) (paint : LentPaint) (hdu : HduParts) → Leaves hdu (pixels_made (painted_by kind shape lo hi paint hdu))
leaves_painted None shape lo hi paint hdu = refl
leaves_painted (Some kind) shape lo hi paint hdu = of (not (lies_within shape.axes lo hi)) (not (has_count paint (rectangle_size lo hi))) (not (can_store_paint (width_of kind) (offset_of kind) paint))
  where
    done : HduParts
    done = with_numbers shape kind lo hi (painted_number paint (offset_of kind)) hdu

    of : (bad few out : Bool) → Leaves hdu (pixels_made (if bad then Err pixel.BadRectangle else if few then Err pixel.WrongCount else if out then Err pixel.OutOfRange else Ok done))
    of true few out = refl
    of false true out = refl
    of false false true = refl
    of false false false = refl

-- by the shape that its cards describe
leaves_shaped : (found : Result Shape ℕ) (lo hi : List ℕ) (paint : LentPaint) (hdu : HduParts) → Leaves hdu (shaped found (λ shape. painted shape lo hi paint hdu))
unfolding painted
leaves_shaped (Ok shape) lo hi paint hdu = leaves_painted (kind_in shape hdu.header.cards) shape lo hi paint hdu
leaves_shaped (Err place) lo hi paint hdu = refl

-- the names of sums are on no card that a reshape writes anew
datasum_other : IsOther (codes "DATASUM ")
unfolding axis_name
datasum_other = record {
  unshaped = record {
    bitpix = λ e. let letter = ap (λ (x : List ℕ). get_or x 0 0) e in omega (arith, letter);
    naxis = λ e. let letter = ap (λ (x : List ℕ). get_or x 0 0) e in omega (arith, letter);
    axis = λ n e. let letter = ap (λ (x : List ℕ). get_or x 0 0) e in omega (arith, letter);
  };
  scale = λ e. let letter = ap (λ (x : List ℕ). get_or x 0 0) e in omega (arith, letter);
  zero = λ e. let letter = ap (λ (x : List ℕ). get_or x 0 0) e in omega (arith, letter);
  link = λ e. let letter = ap (λ (x : List ℕ). get_or x 0 0) e in omega (arith, letter);
}

-- the same of CHECKSUM
checksum_other : IsOther (codes "CHECKSUM")
unfolding axis_name
checksum_other = record {
  unshaped = record {
    bitpix = λ e. let letter = ap (λ (x : List ℕ). get_or x 0 0) e in omega (arith, letter);
    naxis = λ e. let letter = ap (λ (x : List ℕ). get_or x 0 0) e in omega (arith, letter);
    axis = λ n e. let letter = ap (λ (x : List ℕ). get_or x 0 0) e in omega (arith, letter);
  };
  scale = λ e. let letter = ap (λ (x : List ℕ). get_or x 0 0) e in omega (arith, letter);
  zero = λ e. let letter = ap (λ (x : List ℕ). get_or x 0 0) e in omega (arith, letter);
  link = λ e. let letter = ap (λ (x : List ℕ). get_or x 1 0) e in omega (arith, letter);
}

-- another array
leaves_reshaped : (primary : Bool) (found : Result Shape ℕ) (kind : Kind) (axes : List ℕ) (hdu : HduParts) → shape_of primary hdu.header.cards ≡ found → Leaves hdu (hdu_reshaped found kind axes hdu)
leaves_reshaped primary (Err place) kind axes hdu is = refl
leaves_reshaped primary (Ok shape) kind axes hdu is = of (reshaped kind axes shape hdu) refl
  where
    of : (made : Result HduParts ReshapeFault) → reshaped kind axes shape hdu ≡ made → Leaves hdu (reshape_made made)
    of (Err why) e = refl
    of (Ok new) e =
        let array = reshaped_has_kind kind axes shape hdu new e in
        let done = reshaped_is array.0 kind axes shape hdu new array.1 e in
        let may = can_parts array.0 kind axes shape hdu.header.cards done.can in
        same_sums hdu new
        (ap (λ (h : Header). lead_card h.cards (codes "DATASUM ")) done.header ∙ reshaping_leaves_leads primary array.0 kind axes shape hdu.header.cards (codes "DATASUM ") is may.axes_may datasum_other)
        (ap (λ (h : Header). lead_card h.cards (codes "CHECKSUM")) done.header ∙ reshaping_leaves_leads primary array.0 kind axes shape hdu.header.cards (codes "CHECKSUM") is may.axes_may checksum_other)

-- an edit that leaves the cards of sums
pub edit_leaves : (primary : Bool) (edit : HduEdit) (hdu : HduParts) → leaves_sums edit (Some hdu) ≡ true → sum_cards (hdu_edited primary edit hdu) ≡ sum_cards hdu
unfolding hdu_made
edit_leaves primary (Cards edit) hdu e = leaves_changed primary hdu (change_of hdu.header.cards edit) e
edit_leaves primary (Pixels lo hi paint) hdu e = leaves_shaped (shape_of primary hdu.header.cards) lo hi (plane_paint paint) hdu
edit_leaves primary (Reshape kind axes) hdu e = leaves_reshaped primary (shape_of primary hdu.header.cards) kind axes hdu refl
edit_leaves primary Stamp hdu e = absurd (cc)
edit_leaves primary Keep hdu e = absurd (cc)
edit_leaves primary Release hdu e = refl
