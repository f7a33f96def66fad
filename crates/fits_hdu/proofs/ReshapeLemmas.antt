-- An array that is made another: its cards, its data unit, and the HDU of both.
use Rattle.std.proofs.Common.{mul-le-mul_right, ◌≡◌, inl, inr, ℕ, ◌+◌, ◌*◌, ◌^◌, ◌<◌, ◌≤◌, Bool, true, false, not, List, [], length, replicate, codes, refl, ap, sym, ◌∙◌, subst, arith, All, Option, None, Some}
use Rattle.std.specs.Prelude.{if◌then◌else◌, ◌&&◌, ◌-ℤ◌, ℤ, pos, unsigned_abs, Result, Ok, Err}
use Rattle.std.specs.Ordering.{int_eq}
use Rattle.std.proofs.lemmas.List.Elements.{All-cons, All-nil}
use Rattle.std.proofs.lemmas.Bool.{and_parts, cases_Bool, cond-true, cond-false}
use Rattle.fits_card.specs.Change.{spliced}
use Rattle.fits_card.specs.Header.{Header, IsHeader, IsInnerCard, fill_length, with_cards}
use Rattle.fits_card.proofs.HeaderLemmas.{inner-spliced, whole-with_cards}
use Rattle.fits_pixels.specs.Pixels.{IsWidth}
use Rattle.fits_plane.specs.Converting.{KeepsValues, can_store_run, kept_numbers, run_written}
use Rattle.fits_plane.proofs.ConvertLemmas.{converting_keeps_values, length-kept_numbers, run_is_written}
use Rattle.fits_rules.specs.Class.{is_primary}
use Rattle.fits_rules.specs.Image.{array_bits, integer_bits, is_array}
use Rattle.fits_rules.specs.SameShape.{same_shape}
use Rattle.fits_rules.specs.Shape.{shape_of}
use Rattle.fits_rules.specs.Size.{array_values, data_length, data_size, value_bytes, values_in}
use Rattle.fits_rules.specs.declared.array_shape.Shape.{Shape}
use Rattle.fits_rules.proofs.LawLemmas.{shape_primary}
use Rattle.fits_rules.proofs.SameShapeLemmas.{same_shape-Decides}
use Rattle.fits_value.proofs.FrontLemmas.{option_map_some}
use Rattle.fits_image.specs.ImageCards.{are_axes, shape_cards, written_number}
use Rattle.fits_image.specs.Kind.{array_kind, convention, has_offset, kind_of, offset_of, width_of}
use Rattle.fits_image.specs.declared.kind.Kind.{Kind}
use Rattle.fits_image.specs.declared.kind.Kind.TheVariants.{U8, I8, I16, U16, I32, U32, I64, U64}
use Rattle.fits_image.proofs.ImageCardLemmas.{bscale_name, bzero_name, number_inner, shape_cards_inner}
use Rattle.fits_image.proofs.NumberCardLemmas.{IsValueName, number_card, number_is_one_card}
use Rattle.fits_passing.specs.Hdu.{HduParts}
use Rattle.fits_hdu.specs.Keyword.{keyword_cards, replacing}
use Rattle.fits_hdu.specs.Reshape.{adds, can_reshape, cards_reshaped, describes_array, kept_count, reshaped, reshaped_by, reshaped_shape, reshaped_to, scales_otherwise, with_number, with_scaling, ReshapedIsHdu, ReshapingKeepsValues}
use Rattle.fits_hdu.specs.declared.reshape_fault.ReshapeFault.{ReshapeFault}
use Rattle.fits_hdu.specs.declared.reshape_fault.ReshapeFault.TheVariants.{BadShape}
use Rattle.fits_hdu.proofs.ChangeLemmas.{inner_after}
use Rattle.fits_passing.proofs.LayoutLemmas.{array_values_are, kept}
use Rattle.fits_hdu.proofs.StampingLemmas.{brought}

-- a pixel of a kind has a width
pub kind_width : (kind : Kind) → IsWidth (width_of kind)
kind_width U8 = inl refl
kind_width I8 = inl refl
kind_width I16 = inr (inl refl)
kind_width U16 = inr (inl refl)
kind_width I32 = inr (inr (inl refl))
kind_width U32 = inr (inr (inl refl))
kind_width I64 = inr (inr (inr refl))
kind_width U64 = inr (inr (inr refl))

-- an offset has 64 bits
pub offset_small : (kind : Kind) → unsigned_abs (offset_of kind) < 2 ^ 64
offset_small U8 = omega arith
offset_small I8 = omega arith
offset_small I16 = omega arith
offset_small U16 = omega arith
offset_small I32 = omega arith
offset_small U32 = omega arith
offset_small I64 = omega arith
offset_small U64 = omega arith

-- the stored numbers that stay, each with the shift
abbrev pub numbers_of : Kind → Kind → List ℕ → Shape → List ℕ → List ℤ
numbers_of old kind axes shape unit = kept_numbers (width_of old) unit (kept_count shape.axes axes) (offset_of old -ℤ offset_of kind)

-- what an HDU that is made another has
pub record IsReshaped (old kind : Kind) (axes : List ℕ) (shape : Shape) (hdu new : HduParts) : Type 0 where
  pub can : can_reshape old kind axes shape hdu.header.cards ≡ true
  pub stored : can_store_run (width_of kind) (numbers_of old kind axes shape hdu.data_unit) ≡ true
  pub header : new.header ≡ with_cards hdu.header (cards_reshaped old kind axes shape hdu.header.cards)
  pub unit : new.data_unit ≡ run_written (width_of kind) (numbers_of old kind axes shape hdu.data_unit) (data_length (reshaped_shape kind axes shape))

-- it is made by the test of its cards and of its numbers
made_by : (c s : Bool) (cards : List (List ℕ)) (unit : List ℕ) (hdu new : HduParts)
    → (if c then reshaped_to cards (if s then Some unit else None) hdu else Err BadShape) ≡ Ok new
    → (c ≡ true) × (s ≡ true) × (new.header ≡ with_cards hdu.header cards) × (new.data_unit ≡ unit)
made_by true true cards unit hdu new e = (refl, refl, sym (header_of e), sym (unit_of e))
  where
    header_of : (let made : Result HduParts ReshapeFault = Ok (record { header = with_cards hdu.header cards; data_unit = unit }) in made) ≡ Ok new → with_cards hdu.header cards ≡ new.header
    header_of e = cc

    unit_of : (let made : Result HduParts ReshapeFault = Ok (record { header = with_cards hdu.header cards; data_unit = unit }) in made) ≡ Ok new → unit ≡ new.data_unit
    unit_of e = cc
made_by true false cards unit hdu new e = absurd (cc)
made_by false s cards unit hdu new e = absurd (cc)

-- so it has them
pub reshaped_is : (old kind : Kind) (axes : List ℕ) (shape : Shape) (hdu new : HduParts) → array_kind shape hdu.header.cards ≡ Some old → reshaped kind axes shape hdu ≡ Ok new → IsReshaped old kind axes shape hdu new
unfolding reshaped
reshaped_is old kind axes shape hdu new e made =
    let parts = made_by (can_reshape old kind axes shape hdu.header.cards) (can_store_run (width_of kind) (numbers_of old kind axes shape hdu.data_unit)) (cards_reshaped old kind axes shape hdu.header.cards)
    (run_written (width_of kind) (numbers_of old kind axes shape hdu.data_unit) (data_length (reshaped_shape kind axes shape))) hdu new
    (sym (ap (λ k. reshaped_by k kind axes shape hdu) e) ∙ made) in
    record { can = parts.0; stored = parts.1; header = parts.2; unit = parts.3 }

-- and is made of an array of some kind
pub reshaped_has_kind : (kind : Kind) (axes : List ℕ) (shape : Shape) (hdu new : HduParts) → reshaped kind axes shape hdu ≡ Ok new → (old : Kind) × (array_kind shape hdu.header.cards ≡ Some old)
unfolding reshaped
reshaped_has_kind kind axes shape hdu new e = some (array_kind shape hdu.header.cards) e
  where
    some : (found : Option Kind) → reshaped_by found kind axes shape hdu ≡ Ok new → (old : Kind) × (found ≡ Some old)
    some None e = absurd (cc)
    some (Some old) e = (old, refl)

-- the shape is that of an array
pub kind_of_array : (shape : Shape) (cards : List (List ℕ)) (old : Kind) → array_kind shape cards ≡ Some old → is_array shape.class shape.pcount shape.gcount ≡ true
unfolding array_kind array_bits
kind_of_array shape cards old e =
    let found = option_map_some (λ bits. kind_of bits (has_offset cards (convention bits))) (array_bits shape) old e in
    (kept (is_array shape.class shape.pcount shape.gcount) (integer_bits shape.bitpix) found.0 found.1).0

-- how many bytes the data have then
pub size_reshaped : (kind : Kind) (axes : List ℕ) (shape : Shape) → is_array shape.class shape.pcount shape.gcount ≡ true → data_size (reshaped_shape kind axes shape) ≡ width_of kind * array_values axes
unfolding data_size
size_reshaped kind axes shape array =
    let after = reshaped_shape kind axes shape in
    let bytes : value_bytes after ≡ width_of kind = omega arith in
    ap (λ n. n * values_in shape.class after) bytes ∙ ap (λ n. width_of kind * n) (array_values_are shape.class after array)

-- so the pixels have room
pub room_reshaped : (kind : Kind) (axes : List ℕ) (shape : Shape) → is_array shape.class shape.pcount shape.gcount ≡ true → array_values axes * width_of kind ≤ data_length (reshaped_shape kind axes shape)
unfolding data_length
room_reshaped kind axes shape array = omega (arith, size_reshaped kind axes shape array)

-- no more stay than there will be
pub kept_within : (before after : List ℕ) → kept_count before after ≤ array_values after
kept_within before after = omega arith

-- those that stay have room
kept_room : (kind : Kind) (before axes : List ℕ) (shape : Shape) → is_array shape.class shape.pcount shape.gcount ≡ true → kept_count before axes * width_of kind ≤ data_length (reshaped_shape kind axes shape)
kept_room kind before axes shape array =
    let up : kept_count before axes * width_of kind ≤ array_values axes * width_of kind = mul-le-mul_right (width_of kind) (kept_within before axes) in
    omega (arith, up, room_reshaped kind axes shape array)

-- the pixels keep their values
pub reshaping_keeps_values : ReshapingKeepsValues
reshaping_keeps_values primary old kind axes shape hdu new described e made =
    let is = reshaped_is old kind axes shape hdu new e made in
    subst (KeepsValues (width_of old) (width_of kind) (offset_of old) (offset_of kind) (kept_count shape.axes axes) (array_values axes) hdu.data_unit) (sym is.unit)
    (converting_keeps_values (width_of old) (width_of kind) (offset_of old) (offset_of kind) (kept_count shape.axes axes) (array_values axes) (data_length (reshaped_shape kind axes shape)) hdu.data_unit
    (kind_width kind) (kept_within shape.axes axes) (room_reshaped kind axes shape (kind_of_array shape hdu.header.cards old e)) is.stored)

-- the data unit is as long as the cards describe then
pub length_reshaped : (old kind : Kind) (axes : List ℕ) (shape : Shape) (hdu new : HduParts) → array_kind shape hdu.header.cards ≡ Some old → reshaped kind axes shape hdu ≡ Ok new → length new.data_unit ≡ data_length (reshaped_shape kind axes shape)
length_reshaped old kind axes shape hdu new e made =
    let is = reshaped_is old kind axes shape hdu new e made in
    let numbers = numbers_of old kind axes shape hdu.data_unit in
    let count : length numbers ≡ kept_count shape.axes axes = length-kept_numbers (width_of old) (kept_count shape.axes axes) (offset_of old -ℤ offset_of kind) hdu.data_unit in
    let room : length numbers * width_of kind ≤ data_length (reshaped_shape kind axes shape) =
    subst (λ n. n * width_of kind ≤ data_length (reshaped_shape kind axes shape)) (sym count) (kept_room kind shape.axes axes shape (kind_of_array shape hdu.header.cards old e)) in
    ap length is.unit ∙ (run_is_written (width_of kind) numbers (data_length (reshaped_shape kind axes shape)) (kind_width kind) room is.stored).long

-- a number's card is put among cards before END
number_inner_after : (cards : List (List ℕ)) (name : List ℕ) (z : ℤ) → IsValueName name → unsigned_abs z < 2 ^ 64 → All IsInnerCard cards → All IsInnerCard (with_number cards name z)
number_inner_after cards name z named small inner =
    let one : All IsInnerCard (written_number name z) = subst (All IsInnerCard) (sym (number_is_one_card name z named.size small)) (All-cons IsInnerCard (number_card name z) [] (number_inner name z named small) (All-nil IsInnerCard)) in
    inner_after cards (replacing (length cards) (keyword_cards cards name) (written_number name z)) inner
    (subst (All IsInnerCard) (sym (brought cards (written_number name z) (keyword_cards cards name))) one)

-- and so are those of an array that is made another
pub inner_reshaped : (old kind : Kind) (axes : List ℕ) (shape : Shape) (cards : List (List ℕ)) → are_axes axes ≡ true → All IsInnerCard cards → All IsInnerCard (cards_reshaped old kind axes shape cards)
unfolding cards_reshaped
inner_reshaped old kind axes shape cards may inner =
    let described : List (List ℕ) = spliced cards 2 (2 + length shape.axes) (shape_cards kind axes) in
    let first : All IsInnerCard described = inner-spliced cards (shape_cards kind axes) 2 (2 + length shape.axes) inner (shape_cards_inner kind axes may) in
    let scaled = number_inner_after (with_number described (codes "BSCALE  ") (pos 1)) (codes "BZERO   ") (offset_of kind) bzero_name (offset_small kind) (number_inner_after described (codes "BSCALE  ") (pos 1) bscale_name (omega arith) first) in
    elim (cases_Bool (int_eq (offset_of old) (offset_of kind))) [
      | inl e ↦ subst (All IsInnerCard) (sym (cond-true (int_eq (offset_of old) (offset_of kind)) described (with_scaling described (offset_of kind)) e)) first
      | inr e ↦ subst (All IsInnerCard) (sym (cond-false (int_eq (offset_of old) (offset_of kind)) described (with_scaling described (offset_of kind)) e)) scaled
    ]

-- the tests of the cards, apart
pub record CanReshape (old kind : Kind) (axes : List ℕ) (shape : Shape) (cards : List (List ℕ)) : Type 0 where
  pub axes_may : are_axes axes ≡ true
  pub scaled : scales_otherwise old kind cards ≡ false
  pub shaped : same_shape (Ok (reshaped_shape kind axes shape)) (shape_of (is_primary shape.class) (cards_reshaped old kind axes shape cards)) ≡ true
  pub offset : adds (array_kind (reshaped_shape kind axes shape) (cards_reshaped old kind axes shape cards)) (offset_of kind) ≡ true

pub can_parts : (old kind : Kind) (axes : List ℕ) (shape : Shape) (cards : List (List ℕ)) → can_reshape old kind axes shape cards ≡ true → CanReshape old kind axes shape cards
unfolding can_reshape
can_parts old kind axes shape cards e =
    let after = cards_reshaped old kind axes shape cards in
    let both = and_parts (are_axes axes && not (scales_otherwise old kind cards)) (describes_array (reshaped_shape kind axes shape) (offset_of kind) after) e in
    let first = and_parts (are_axes axes) (not (scales_otherwise old kind cards)) both.0 in
    let last = and_parts (same_shape (Ok (reshaped_shape kind axes shape)) (shape_of (is_primary shape.class) after)) (adds (array_kind (reshaped_shape kind axes shape) after) (offset_of kind)) both.1 in
    record { axes_may = first.0; scaled = not_true (scales_otherwise old kind cards) first.1; shaped = last.0; offset = last.1 }
  where
    not_true : (b : Bool) → not b ≡ true → b ≡ false
    not_true true e = absurd (cc)
    not_true false e = refl

-- an HDU is left
pub reshaped_is_hdu : ReshapedIsHdu
reshaped_is_hdu primary kind axes shape hdu new whole described made =
    let found = reshaped_has_kind kind axes shape hdu new made in
    let old = found.0 in
    let is = reshaped_is old kind axes shape hdu new found.1 made in
    let can = can_parts old kind axes shape hdu.header.cards is.can in
    let cards = cards_reshaped old kind axes shape hdu.header.cards in
    let same : shape_of (is_primary shape.class) cards ≡ Ok (reshaped_shape kind axes shape) = (same_shape-Decides (reshaped_shape kind axes shape) (shape_of (is_primary shape.class) cards)).0 can.shaped in
    let shaped : shape_of primary new.header.cards ≡ Ok (reshaped_shape kind axes shape) =
    ap (λ (h : Header). shape_of primary h.cards) is.header ∙ (ap (λ b. shape_of b cards) (sym (shape_primary primary hdu.header.cards shape described)) ∙ same) in
    let header : IsHeader (with_cards hdu.header cards) = whole-with_cards hdu.header cards (replicate (fill_length (length cards)) 32) (length cards) whole.header (inner_reshaped old kind axes shape hdu.header.cards can.axes_may whole.header.cards) refl refl in (
      record { shape = reshaped_shape kind axes shape; header = subst IsHeader (sym is.header) header; described = shaped; size = length_reshaped old kind axes shape hdu new found.1 made },
      shaped,
    )
