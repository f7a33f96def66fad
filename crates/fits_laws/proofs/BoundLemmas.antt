-- How much edits and queries do at most, by what they touch.
-- ---- cards
use Rattle.std.proofs.Common.{◌≡◌, add-one, ◌⊎◌, inl, inr, true, false, ℕ, zero, suc, ◌+◌, ◌-◌, ◌*◌, ◌^◌, ◌<◌, ◌≤◌, Bool, List, [], ◌∷◌, length, get_or, codes, refl, ap, sym, ◌∙◌, subst, arith, Option, None, Some}
use Rattle.std.specs.Prelude.{Result, Ok, Err, if◌then◌else◌}
use Rattle.std.specs.List.{remove, slice_get, range_with_len}
use Rattle.std.specs.Ordering.{int_eq}
use Rattle.std.specs.Option.{option_map, option_map_or}
use Rattle.indexmap.proofs.SetLemmas.{map-remove}
use Rattle.fits_session.proofs.PlaceLemmas.{get_before, get_behind}
use Rattle.fits_session.proofs.KeptLemmas.{reads_of-unentered, works_of-unentered}
use Rattle.fits_card.specs.declared.change.Change.{Change}
use Rattle.fits_value.specs.Says.{chain_length}
use Rattle.fits_pixels.specs.Layout.{block_count, block_pixels}
use Rattle.fits_plane.specs.Work.{rectangle_blocks, is_touched}
use Rattle.fits_rules.specs.Lead.{lead_place}
use Rattle.fits_rules.specs.Shape.{shape_of}
use Rattle.fits_rules.specs.declared.array_shape.Shape.{Shape}
use Rattle.fits_passing.specs.Hdu.{HduParts}
use Rattle.fits_hdu.specs.Keyword.{keyword_cards, own_count, with_links}
use Rattle.fits_passing.specs.Layout.{layout_of}
use Rattle.fits_hdu.specs.State.{HduState, parts_of}
use Rattle.fits_image.specs.Kind.{array_kind, offset_of}
use Rattle.fits_image.specs.declared.kind.Kind.{Kind}
use Rattle.fits_hdu.specs.Reshape.{kept_count}
use Rattle.fits_hdu.specs.Work.{keyword_reads, reshape_reads, stamp_count_reads, stamp_reads, plane_work, IsPatched, IsRenewed, IsRescanned, PixelWork}
use Rattle.fits_hdu.specs.declared.keyword_cards.KeywordCards.{KeywordCards}
use Rattle.fits_laws.specs.Bounds.{mandatory_count, moved_count, reshaped_count, stamped_count, Grows, NoneFalls, OthersStay, SameCounts, WorksUpTo}
use Rattle.fits_making.specs.CardEdit.{change_of, is_keyword_name, set_of, setting, unset_of, unsetting}
use Rattle.fits_session.specs.Edit.{changed_of, hdu_edited, hdu_of}
use Rattle.fits_passing.specs.File.{is_primary_hdu}
use Rattle.fits_making.specs.HduEdit.{made_or, hdu_changed, hdu_made}
use Rattle.fits_session.specs.Session.{AreIdle, Asks, AsksPixels, EditsTo, ReadsOnly, SessionState, file_of, hdus_of, read_more, reads_of, without_entries, works_of}
use Rattle.fits_making.specs.Making.{HduWork, PatchesIn, ReshapesIn}
use Rattle.fits_making.specs.Work.{change_reads, follow_up_reads, own_reads, reads_to_find, reads_to_reshape}
use Rattle.fits_session.specs.Work.{follow_reads, reads_in_all}
use Rattle.fits_edit.specs.declared.card_edit.CardEdit.{CardEdit}
use Rattle.fits_edit.specs.declared.card_edit.CardEdit.TheVariants.{Insert, Put, Delete, Move, Set, Unset}
use Rattle.fits_edit.specs.declared.edit.Edit.{Edit}
use Rattle.fits_edit.specs.declared.edit.Edit.TheVariants.{Hdu, NewImage, RemoveHdu}
use Rattle.fits_edit.specs.declared.hdu_edit.HduEdit.{HduEdit}
use Rattle.fits_edit.specs.declared.hdu_edit.HduEdit.TheVariants.{Cards, Keep, Pixels, Release, Reshape, Stamp}
use Rattle.fits_edit.specs.declared.paint.Paint.{Paint}
use Rattle.fits_making.specs.declared.refusal.Refusal.{Refusal}
use Rattle.fits_card.specs.Name.{is_settable}
use Rattle.fits_value.specs.Written.{write_says}
use Rattle.std.proofs.lemmas.List.Sums.{count_by-le-length}
use Rattle.std.proofs.lemmas.List.FromFn.{length-range_with_len}

-- a keyword is read by one card more than it has
keyword_few : (cards : List (List ℕ)) (name : List ℕ) → keyword_reads cards name ≤ own_count cards name + 1
unfolding keyword_reads keyword_cards
keyword_few cards name = led (lead_place cards name)
  where
    led : (place : Option ℕ) → option_map_or (λ place. chain_length cards place + 1) place 0 ≤ option_map_or (λ (at : KeywordCards). at.count) (option_map (with_links cards) place) 0 + 1
    led None = omega arith
    led (Some place) = omega arith

-- an edit that sets a keyword takes its cards out
set_moves : (count : ℕ) (old : Option KeywordCards) (written : Option (List (List ℕ))) (reads : ℕ) → reads ≤ option_map_or (λ (at : KeywordCards). at.count) old 0 + 1 → reads_to_find (setting count old written) reads ≤ moved_count (setting count old written) + 1
set_moves count old None reads few = omega arith
set_moves count None (Some new) reads few = omega (arith, few)
set_moves count (Some old) (Some new) reads few = omega (arith, few)

-- so does one that takes it out
unset_moves : (old : Option KeywordCards) (reads : ℕ) → reads ≤ option_map_or (λ (at : KeywordCards). at.count) old 0 + 1 → reads_to_find (unsetting old) reads ≤ moved_count (unsetting old) + 1
unset_moves None reads few = omega arith
unset_moves (Some old) reads few = omega (arith, few)

-- whatever the name is
named_moves : (b : Bool) (made : Result Change Refusal) (why : Refusal) (reads : ℕ) → reads_to_find made reads ≤ moved_count made + 1 → reads_to_find (if b then made else Err why) reads ≤ moved_count (if b then made else Err why) + 1
named_moves true made why reads few = few
named_moves false made why reads few = omega arith

-- an edit of cards finds its change by one card more than it moves at most
own_moves : (cards : List (List ℕ)) (edit : CardEdit) → own_reads cards edit ≤ moved_count (change_of cards edit) + 1
unfolding change_of set_of unset_of
own_moves cards (Insert place card) = omega arith
own_moves cards (Put place card) = omega arith
own_moves cards (Delete place) = omega arith
own_moves cards (Move from to) = omega arith
own_moves cards (Set name value comment) = named_moves (is_settable name) _ _ (keyword_reads cards name) (set_moves (length cards) (keyword_cards cards name) (write_says name value comment) (keyword_reads cards name) (keyword_few cards name))
own_moves cards (Unset name) = named_moves (is_keyword_name name) _ _ (keyword_reads cards name) (unset_moves (keyword_cards cards name) (keyword_reads cards name) (keyword_few cards name))

-- what it is called then is found by three
follow_few : (edit : HduEdit) (made : Result HduParts Refusal) → follow_reads edit made ≤ 3
follow_few (Cards edit) (Ok made) = omega arith
follow_few (Cards edit) (Err why) = omega arith
follow_few (Pixels lo hi paint) (Ok made) = omega arith
follow_few (Pixels lo hi paint) (Err why) = omega arith
follow_few (Reshape kind axes) (Ok made) = omega arith
follow_few (Reshape kind axes) (Err why) = omega arith
follow_few Stamp (Ok made) = omega arith
follow_few Stamp (Err why) = omega arith
follow_few Keep (Ok made) = omega arith
follow_few Keep (Err why) = omega arith
follow_few Release (Ok made) = omega arith
follow_few Release (Err why) = omega arith

-- and makes it by those that say whether the shape stays, and twelve
change_few : (shape : Shape) (primary : Bool) (hdu : HduParts) (edit : CardEdit) (made : Result Change Refusal) → change_reads (Ok shape) made + follow_reads (Cards edit) (hdu_changed primary hdu made) ≤ mandatory_count shape + 15
change_few shape primary hdu edit (Ok change) = omega (arith, follow_few (Cards edit) (hdu_changed primary hdu (Ok change)))
change_few shape primary hdu edit (Err why) = omega arith

-- so it reads few
pub cards_closer : (primary : Bool) (hdu : HduParts) (shape : Shape) (edit : CardEdit) → shape_of primary hdu.header.cards ≡ Ok shape → reads_in_all false primary (Cards edit) hdu ≤ mandatory_count shape + moved_count (change_of hdu.header.cards edit) + 16
unfolding hdu_made
cards_closer primary hdu shape edit described =
    let made = change_of hdu.header.cards edit in
    let reads : change_reads (shape_of primary hdu.header.cards) made ≡ change_reads (Ok shape) made = ap (λ said. change_reads said made) described in
    omega (arith, reads, change_few shape primary hdu edit made, own_moves hdu.header.cards edit)

-- and a stamp
pub stamp_closer : (primary : Bool) (hdu : HduParts) → reads_in_all false primary Stamp hdu ≤ 2 * stamped_count hdu.header.cards + 32
unfolding stamp_count_reads stamp_reads
stamp_closer primary hdu =
    omega (arith, follow_few Stamp (hdu_made primary Stamp hdu), keyword_few hdu.header.cards (codes "CHECKSUM"), keyword_few hdu.header.cards (codes "DATASUM "))

-- the stamp that follows what was made of an HDU reads few
follow_up_few : (hdu : HduParts) (made : Result HduParts Refusal) → follow_up_reads true made ≤ stamped_count (made_or hdu made).header.cards + 29
unfolding stamp_count_reads stamp_reads
follow_up_few hdu (Ok made) = omega (arith, keyword_few made.header.cards (codes "CHECKSUM"), keyword_few made.header.cards (codes "DATASUM "))
follow_up_few hdu (Err why) = omega arith

-- so what an edit reads of an HDU that is kept stamped is what it reads of another, and its stamp
pub kept_closer : (primary : Bool) (edit : HduEdit) (hdu : HduParts) → reads_in_all true primary edit hdu ≤ reads_in_all false primary edit hdu + (stamped_count (hdu_edited primary edit hdu).header.cards + 29)
kept_closer primary edit hdu = omega (arith, follow_up_few hdu (hdu_made primary edit hdu))

-- BSCALE and BZERO are read by no more cards than they move
rescaled_few : (same : Bool) (a b m n : ℕ) → m ≤ a + 1 → n ≤ b + 1 → (if same then 0 else m + n) ≤ (if same then 0 else a + b + 2)
rescaled_few true a b m n p q = omega arith
rescaled_few false a b m n p q = omega (arith, p, q)

-- so a reshape reads few
reshape_few : (old : Option Kind) (kind : Kind) (axes : List ℕ) (shape : Shape) (cards : List (List ℕ)) → reshape_reads old kind axes cards ≤ length axes + 2 * reshaped_count old kind axes shape cards + 29
reshape_few None kind axes shape cards = omega arith
reshape_few (Some old) kind axes shape cards =
    omega (
      arith,
      rescaled_few (int_eq (offset_of old) (offset_of kind)) (own_count cards (codes "BSCALE  ")) (own_count cards (codes "BZERO   ")) (keyword_reads cards (codes "BSCALE  ")) (keyword_reads cards (codes "BZERO   ")) (keyword_few cards (codes "BSCALE  ")) (keyword_few cards (codes "BZERO   ")),
    )

pub reshape_closer : (primary : Bool) (hdu : HduParts) (shape : Shape) (kind : Kind) (axes : List ℕ) → shape_of primary hdu.header.cards ≡ Ok shape
    → reads_in_all false primary (Reshape kind axes) hdu ≤ length axes + 2 * reshaped_count (array_kind shape hdu.header.cards) kind axes shape hdu.header.cards + 32
reshape_closer primary hdu shape kind axes described =
    let reads = ap (λ said. reads_to_reshape said kind axes hdu.header.cards) described in
    omega (arith, reads, follow_few (Reshape kind axes) (hdu_made primary (Reshape kind axes) hdu), reshape_few (array_kind shape hdu.header.cards) kind axes shape hdu.header.cards)

-- a value is read by one card more than its chain has
pub value_few : (cards : List (List ℕ)) (name : List ℕ) (place : ℕ) → lead_place cards name ≡ Some place → keyword_reads cards name ≤ 2 * chain_length cards place + 2
unfolding keyword_reads
value_few cards name place led =
    let reads : option_map_or (λ place. chain_length cards place + 1) (lead_place cards name) 0 ≡ chain_length cards place + 1 = ap (λ at. option_map_or (λ place. chain_length cards place + 1) at 0) led in
    omega (arith, reads)

-- an edit of pixels works on the blocks of its rectangle
pub pixels_few : (primary : Bool) (hdu : HduParts) (shape : Shape) (lo hi : List ℕ) (paint : Paint) (old new : PixelWork) (d : ℕ) → shape_of primary hdu.header.cards ≡ Ok shape → block_count hdu.data_unit ≤ 2 ^ d → HduWork primary (Pixels lo hi paint) hdu old new
    → WorksUpTo (rectangle_blocks (layout_of shape hdu.header.cards) hdu.data_unit shape.axes lo hi) (rectangle_blocks (layout_of shape hdu.header.cards) hdu.data_unit shape.axes lo hi * (d + 1)) old new
pixels_few primary hdu shape lo hi paint old new d described few work =
    let blocks = rectangle_blocks (layout_of shape hdu.header.cards) hdu.data_unit shape.axes lo hi in
    let patched : IsPatched blocks (block_count hdu.data_unit) old new = subst (λ (said : Result Shape ℕ). PatchesIn said lo hi hdu old new) described work in
    let joins = patched.joins d few in
    record {
      more_scans = patched.more_scans;
      scans = patched.scans;
      reads = patched.reads;
      more_joins = patched.more_joins;
      joins = omega (arith, joins);
    }

-- a reshape works on the pixels that stay and on the blocks that come
pub reshape_works : (primary : Bool) (hdu : HduParts) (shape : Shape) (kind : Kind) (axes : List ℕ) (old new : PixelWork) → shape_of primary hdu.header.cards ≡ Ok shape → HduWork primary (Reshape kind axes) hdu old new
    → IsRenewed (kept_count shape.axes axes) (block_count (hdu_edited primary (Reshape kind axes) hdu).data_unit) old new
reshape_works primary hdu shape kind axes old new described work = subst (λ (said : Result Shape ℕ). ReshapesIn said axes (hdu_edited primary (Reshape kind axes) hdu) old new) described work

-- of a data unit of two blocks, two at most
pub two_blocks : (primary : Bool) (hdu : HduParts) (shape : Shape) (lo hi : List ℕ) (paint : Paint) (old new : PixelWork) → shape_of primary hdu.header.cards ≡ Ok shape → block_count hdu.data_unit ≡ 2 → HduWork primary (Pixels lo hi paint) hdu old new → WorksUpTo 2 4 old new
two_blocks primary hdu shape lo hi paint old new described two work =
    let layout = layout_of shape hdu.header.cards in
    let blocks = rectangle_blocks layout hdu.data_unit shape.axes lo hi in
    let most = count_by-le-length (is_touched shape.axes lo hi (block_pixels layout.width) layout.pixels) (range_with_len 0 (block_count hdu.data_unit)) in
    let few : blocks ≤ 2 = omega (arith, most, length-range_with_len 0 (block_count hdu.data_unit), two) in
    let p = pixels_few primary hdu shape lo hi paint old new 1 described (omega (arith, two)) work in
    record {
      more_scans = p.more_scans;
      scans = omega (arith, p.scans, few);
      reads = p.reads;
      more_joins = p.more_joins;
      joins = omega (arith, p.joins, few);
    }

-- where the number that BLANK names changes or not
follows_grows : (old new : PixelWork) → (blocks : ℕ) → (new ≡ old) ⊎ IsRescanned blocks old new → Grows old new
follows_grows old new blocks (inl same) = record { scans = omega (arith, ap (λ (w : PixelWork). w.scans) same); reads = omega (arith, ap (λ (w : PixelWork). w.reads) same); joins = omega (arith, ap (λ (w : PixelWork). w.joins) same) }
follows_grows old new blocks (inr again) = record { scans = omega (arith, again.scans); reads = omega (arith, again.reads); joins = again.more_joins }

-- where pixels are painted
patches_grows : (said : Result Shape ℕ) (lo hi : List ℕ) (hdu : HduParts) (old new : PixelWork) → PatchesIn said lo hi hdu old new → Grows old new
patches_grows (Ok shape) lo hi hdu old new patched = record { scans = patched.more_scans; reads = omega (arith, patched.reads); joins = patched.more_joins }
patches_grows (Err place) lo hi hdu old new same = follows_grows old new 0 (inl same)

-- where an array is made another
reshapes_grows : (said : Result Shape ℕ) (axes : List ℕ) (after : HduParts) (old new : PixelWork) → ReshapesIn said axes after old new → Grows old new
reshapes_grows (Ok shape) axes after old new renewed = record { scans = renewed.more_scans; reads = renewed.more_reads; joins = renewed.more_joins }
reshapes_grows (Err place) axes after old new same = follows_grows old new 0 (inl same)

-- whatever an edit of an HDU does, no count falls
edit_grows : (primary : Bool) (edit : HduEdit) (hdu : HduParts) (old new : PixelWork) → HduWork primary edit hdu old new → Grows old new
edit_grows primary (Cards edit) hdu old new work = follows_grows old new (block_count hdu.data_unit) work.any
edit_grows primary (Pixels lo hi paint) hdu old new work = patches_grows (shape_of primary hdu.header.cards) lo hi hdu old new work
edit_grows primary (Reshape kind axes) hdu old new work = reshapes_grows (shape_of primary hdu.header.cards) axes _ old new work
edit_grows primary Stamp hdu old new work = follows_grows old new (block_count hdu.data_unit) work.any
edit_grows primary Keep hdu old new work = follows_grows old new (block_count hdu.data_unit) work.any
edit_grows primary Release hdu old new work = follows_grows old new (block_count hdu.data_unit) work.any

-- an edit that is refused and no reshape did no work
pub idle_else : (edit : Edit) (before after : List PixelWork) → AreIdle edit before after → ((h : ℕ) (kind : Kind) (axes : List ℕ) → edit ≡ Hdu h (Reshape kind axes) → ⊥) → after ≡ before
idle_else (Hdu h (Cards edit)) before after idle other = idle
idle_else (Hdu h (Pixels lo hi paint)) before after idle other = idle
idle_else (Hdu h (Reshape kind axes)) before after idle other = absurd (other h kind axes refl)
idle_else (Hdu h Stamp) before after idle other = idle
idle_else (Hdu h Keep) before after idle other = idle
idle_else (Hdu h Release) before after idle other = idle
idle_else (NewImage at kind axes) before after idle other = idle
idle_else (RemoveHdu h) before after idle other = idle

-- what is changed of one stays of the others
changed_get : {X : Type 0} (h i : ℕ) (change : X → X) (xs : List X) → (slice_get (changed_of h change xs) i ≡ slice_get xs i) ⊎ ((h ≡ i + 1) × (slice_get (changed_of h change xs) i ≡ option_map change (slice_get xs i)))
changed_get zero i change xs = inl refl
changed_get (suc h) i change [] = inl refl
changed_get (suc zero) zero change (x ∷ xs) = inr (refl, refl)
changed_get (suc zero) (suc i) change (x ∷ xs) = inl refl
changed_get (suc (suc h)) zero change (x ∷ xs) = inl refl
changed_get (suc (suc h)) (suc i) change (x ∷ xs) = elim (changed_get (suc h) i change xs) [
  | inl same ↦ inl same
  | inr at ↦ inr (omega (arith, at.0), at.1)
]

-- so those of an HDU that isn't named stay
changed_others : {X : Type 0} (h i : ℕ) (change : X → X) (xs : List X) → (h ≡ i + 1 → ⊥) → slice_get (changed_of h change xs) i ≡ slice_get xs i
changed_others h i change xs apart = elim (changed_get h i change xs) [ inl same ↦ same | inr at ↦ absurd (apart at.0) ]

-- a count that grows is no less anywhere
added_grows : (h i count : ℕ) (xs : List ℕ) → get_or xs i 0 ≤ get_or (changed_of h (λ n. n + count) xs) i 0
added_grows zero i count xs = omega arith
added_grows (suc h) i count [] = omega arith
added_grows (suc zero) zero count (x ∷ xs) = omega arith
added_grows (suc zero) (suc i) count (x ∷ xs) = omega arith
added_grows (suc (suc h)) zero count (x ∷ xs) = omega arith
added_grows (suc (suc h)) (suc i) count (x ∷ xs) = added_grows (suc h) i count xs

-- what reads cards of one HDU leaves those of the others
reads_others : (h most i : ℕ) (before after : List ℕ) → ReadsOnly h most before after → (h ≡ i + 1 → ⊥) → slice_get after i ≡ slice_get before i
reads_others h most i before after p apart = ap (λ xs. slice_get xs i) p.is ∙ changed_others h i (λ n. n + p.count) before apart

-- and lets none fall
reads_grow : (h most i : ℕ) (before after : List ℕ) → ReadsOnly h most before after → get_or before i 0 ≤ get_or after i 0
reads_grow h most i before after p = omega (arith, added_grows h i p.count before, ap (λ xs. get_or xs i 0) p.is)

-- works that are equal grew
same_grows : (old new : PixelWork) → Option.Some new ≡ Some old → Grows old new
same_grows old new e = follows_grows old new 0 (inl (let same : new ≡ old = cc in same))

-- the HDU whose work stands at an index
hdu_at_work : (hdus : List HduState) (i : ℕ) (work : PixelWork) → slice_get (works_of hdus) i ≡ Some work → (hdu : HduParts) × (slice_get (hdus_of hdus) i ≡ Some hdu)
hdu_at_work [] i work e = absurd (let z : ◌≡◌ {A = Option PixelWork} None (Some work) = e in cc)
hdu_at_work (one ∷ hdus) zero work e = (parts_of one, refl)
hdu_at_work (one ∷ hdus) (suc i) work e = hdu_at_work hdus i work e

-- an edit of an HDU leaves the counts of the others
pub edit_others : {X : Type 0} (h : ℕ) (edit : HduEdit) (old new : SessionState) (result : Result X Refusal) → EditsTo (Hdu h edit) old new result → OthersStay h old.hdus new.hdus
edit_others h edit old new result p = record {
  cards = λ i apart. reads_others h _ i (reads_of old.hdus) (reads_of new.hdus) p.work.cards apart;
  pixels = λ i apart. ap (λ xs. slice_get xs i) p.work.pixels.is ∙ changed_others h i (λ work. p.work.pixels.now) (works_of old.hdus) apart;
}

-- and lets none fall
pub edit_none_falls : {X : Type 0} (h : ℕ) (edit : HduEdit) (old new : SessionState) (result : Result X Refusal) → EditsTo (Hdu h edit) old new result → NoneFalls old.hdus new.hdus
edit_none_falls h edit old new result p = record {
  cards = λ i. reads_grow h _ i (reads_of old.hdus) (reads_of new.hdus) p.work.cards;
  pixels = λ i before after there now.
      let works = p.work.pixels in
      let left = ap (λ xs. slice_get xs i) works.is in
      elim (changed_get h i (λ work. works.now) (works_of old.hdus)) [
        | inl same ↦ same_grows before after (sym now ∙ left ∙ same ∙ there)
        | inr at ↦
            let hdu = hdu_at_work old.hdus i before there in
            let found : hdu_of (file_of old) h ≡ Some hdu.0 = ap (hdu_of (file_of old)) (at.0 ∙ add-one i) ∙ hdu.1 in
            let is : Option.Some after ≡ Some works.now = sym now ∙ left ∙ at.1 ∙ ap (option_map (λ work. works.now)) there in
            let same : works.now ≡ after = cc in
            subst (λ (w : PixelWork). Grows before w) same (edit_grows (is_primary_hdu h) edit hdu.0 before works.now (works.much i before at.0 there hdu.0 found))
      ];
}

-- so does a query
pub asks_little : (h most : ℕ) (old new : SessionState) → Asks h most old new → NoneFalls old.hdus new.hdus × OthersStay h old.hdus new.hdus
asks_little h most old new p = (
  record {
    cards = λ i. reads_grow h most i (reads_of old.hdus) (reads_of new.hdus) p.work;
    pixels = λ i before after there now. same_grows before after (sym now ∙ ap (λ xs. slice_get xs i) p.pixel_work ∙ there);
  },
  record {
    cards = λ i apart. reads_others h most i (reads_of old.hdus) (reads_of new.hdus) p.work apart;
    pixels = λ i apart. ap (λ xs. slice_get xs i) p.pixel_work;
  },
)

-- and one of pixels
pub asks_pixels_little : (h count : ℕ) (old new : SessionState) → AsksPixels h count old new → NoneFalls old.hdus new.hdus × OthersStay h old.hdus new.hdus
asks_pixels_little h count old new p = (
  record {
    cards = λ i. omega (arith, ap (λ xs. get_or xs i 0) p.work);
    pixels = λ i before after there now.
        let left = ap (λ xs. slice_get xs i) p.pixel_work in
        elim (changed_get h i (read_more count) (works_of old.hdus)) [
          | inl same ↦ same_grows before after (sym now ∙ left ∙ same ∙ there)
          | inr at ↦
              let is : Option.Some after ≡ Some (read_more count before) = sym now ∙ left ∙ at.1 ∙ ap (option_map (read_more count)) there in
              let same : read_more count before ≡ after = cc in
              subst (λ (w : PixelWork). Grows before w) same (record { scans = omega arith; reads = omega arith; joins = omega arith })
        ];
  },
  record {
    cards = λ i apart. ap (λ xs. slice_get xs i) p.work;
    pixels = λ i apart. ap (λ xs. slice_get xs i) p.pixel_work ∙ changed_others h i (read_more count) (works_of old.hdus) apart;
  },
)

-- the cards read of the HDUs that are left
reads_left : (k : ℕ) (before after : List HduState) → without_entries after ≡ remove (without_entries before) k → reads_of after ≡ remove (reads_of before) k
reads_left k before after gone =
    let read : HduState → ℕ = λ one. one.header.reads in
    sym (reads_of-unentered after) ∙ ap reads_of gone ∙ map-remove read (without_entries before) k ∙ ap (λ reads. remove reads k) (reads_of-unentered before)

-- and the work on their data units
works_left : (k : ℕ) (before after : List HduState) → without_entries after ≡ remove (without_entries before) k → works_of after ≡ remove (works_of before) k
works_left k before after gone =
    let work : HduState → PixelWork = λ one. plane_work one.plane in
    sym (works_of-unentered after) ∙ ap works_of gone ∙ map-remove work (without_entries before) k ∙ ap (λ works. remove works k) (works_of-unentered before)

-- so each HDU before keeps its counts
pub before_gone : (h : ℕ) (before after : List HduState) (i : ℕ) → without_entries after ≡ remove (without_entries before) (h - 1) → i + 1 < h → SameCounts i i before after
before_gone h before after i gone at = record {
  cards = ap (λ xs. slice_get xs i) (reads_left (h - 1) before after gone) ∙ get_before (reads_of before) (h - 1) i (omega (arith, at));
  pixels = ap (λ xs. slice_get xs i) (works_left (h - 1) before after gone) ∙ get_before (works_of before) (h - 1) i (omega (arith, at));
}

-- and each behind
pub behind_gone : (h : ℕ) (before after : List HduState) (i : ℕ) → without_entries after ≡ remove (without_entries before) (h - 1) → h ≤ i + 1 → SameCounts (i + 1) i before after
behind_gone h before after i gone at = record {
  cards = ap (λ xs. slice_get xs i) (reads_left (h - 1) before after gone) ∙ get_behind (reads_of before) (h - 1) i (omega (arith, at)) ∙ ap (slice_get (reads_of before)) (sym (add-one i));
  pixels = ap (λ xs. slice_get xs i) (works_left (h - 1) before after gone) ∙ get_behind (works_of before) (h - 1) i (omega (arith, at)) ∙ ap (slice_get (works_of before)) (sym (add-one i));
}
