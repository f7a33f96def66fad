-- A new image is an HDU.
use Rattle.std.proofs.Common.{◌≡◌, ℕ, zero, suc, ◌+◌, ◌-◌, ◌*◌, ◌^◌, ◌<◌, ◌≤◌, true, false, leb, List, [], ◌∷◌, ◌++◌, length, get_or, replicate, codes, refl, ap, sym, ◌∙◌, subst, arith, All, Option, None, Some, length-append}
use Rattle.std.specs.Prelude.{◌&&◌, Ok, ℤ, pos, negsuc, unsigned_abs, nat_le, option_and_then}
use Rattle.std.specs.Fmt.{decimal}
use Rattle.std.specs.List.{list_all, slice_get}
use Rattle.std.specs.Option.{option_map}
use Rattle.std.specs.Str.{bytes_eq}
use Rattle.std.proofs.lemmas.Bool.{and_from, and_parts, cond-false, cond-true, le-leb, leb-true}
use Rattle.std.proofs.lemmas.Option.{slice_get-get_or}
use Rattle.std.proofs.lemmas.Fmt.{length-decimal-le}
use Rattle.std.proofs.lemmas.List.{length-replicate}
use Rattle.std.proofs.lemmas.List.Elements.{All-append, All-cons, All-nil}
use Rattle.std.proofs.lemmas.Slice.Eq.{bytes_eq-Decides}
use Rattle.fits_card.specs.Card.{IsEnd, IsText, card_of_text, has_value, is_end, is_text, is_text_byte, keyword_name}
use Rattle.fits_card.specs.Header.{IsHeader, IsInnerCard, card_at, fill_length, new_header}
use Rattle.fits_card.specs.Name.{is_valueless}
use Rattle.fits_rules.specs.Class.{extension_class}
use Rattle.fits_rules.specs.Lead.{is_value_of, lead_card}
use Rattle.fits_rules.specs.Reads.{integer_said}
use Rattle.fits_rules.specs.Shape.{Describes, axis_name, axis_of, bitpix_in, bitpix_of, card_named, class_of, count_of, count_said, first_card, naxis_of, shape_of, up_to}
use Rattle.fits_rules.specs.declared.class.Class.TheVariants.{Image}
use Rattle.fits_rules.proofs.DescribesLemmas.{describes}
use Rattle.fits_rules.proofs.ShapeLemmas.{axis_there, bitpix_there, first_named, naxis_there, named_same}
use Rattle.fits_value.specs.Spelling.{is_digit}
use Rattle.fits_value.proofs.WrittenLemmas.{narrower, none_text, text_both, text_more, text_spaces}
use Rattle.fits_image.specs.Kind.{offset_of, width_of}
use Rattle.fits_image.specs.ImageCards.{shape_cards, are_axes, axis_cards, image_cards, image_shape, offset_cards, scaling_cards}
use Rattle.fits_image.specs.declared.kind.Kind.{Kind}
use Rattle.fits_image.specs.declared.kind.Kind.TheVariants.{U8, I8, I16, U16, I32, U32, I64, U64}
use Rattle.fits_image.proofs.LeadFromLemmas.{From, from_lead, lead_card_is}
use Rattle.fits_image.proofs.PlainTextLemmas.{decimal_says}
use Rattle.fits_image.proofs.NumberCardLemmas.{IsValueCard, IsValueName, image_is_one_card, number_card, number_card_is, number_card_said, number_is_one_card, xtension_card, xtension_card_is, xtension_card_said}

-- the cards of axes, one each
abbrev pub axis_list : ℕ → List ℕ → List (List ℕ)
axis_list n [] = []
axis_list n (axis ∷ axes) = number_card (axis_name n) (pos axis) ∷ axis_list (n + 1) axes

-- those of an offset
abbrev pub scaling_list : ℤ → List (List ℕ)
scaling_list offset = number_card (codes "BSCALE  ") (pos 1) ∷ number_card (codes "BZERO   ") offset ∷ []

-- where the kind has one
abbrev pub offset_list : Kind → List (List ℕ)
offset_list I8 = scaling_list (offset_of I8)
offset_list U16 = scaling_list (offset_of U16)
offset_list U32 = scaling_list (offset_of U32)
offset_list U64 = scaling_list (offset_of U64)
offset_list kind = []

-- those after the axes
abbrev pub later_list : Kind → List (List ℕ)
later_list kind = number_card (codes "PCOUNT  ") (pos 0) ∷ number_card (codes "GCOUNT  ") (pos 1) ∷ offset_list kind

-- all of them
abbrev pub image_list : Kind → List ℕ → List (List ℕ)
image_list kind axes =
    xtension_card ∷ number_card (codes "BITPIX  ") (pos (8 * width_of kind)) ∷ number_card (codes "NAXIS   ") (pos (length axes)) ∷ (axis_list 1 axes ++ later_list kind)

-- axes from a number on that a header may describe
pub record AreAxesFrom (n : ℕ) (axes : List ℕ) : Type 0 where
  pub few : n + length axes ≤ 1000
  pub small : list_all (λ axis. nat_le axis 9223372036854775807) axes ≡ true

-- those of a new image
pub axes_from : (axes : List ℕ) → are_axes axes ≡ true → AreAxesFrom 1 axes
unfolding are_axes
axes_from axes e =
    let both = and_parts (leb (length axes) 999) (list_all (λ axis. nat_le axis 9223372036854775807) axes) e in
    let few : length axes ≤ 999 = leb-true (length axes) 999 both.0 in
    record { few = omega (arith, few); small = both.1 }

-- the first of them
pub first_small : (n axis : ℕ) (axes : List ℕ) → AreAxesFrom n (axis ∷ axes) → axis ≤ 9223372036854775807
first_small n axis axes are = leb-true axis 9223372036854775807 (and_parts (leb axis 9223372036854775807) (list_all (λ a. nat_le a 9223372036854775807) axes) are.small).0

-- and those after it
pub more_axes : (n axis : ℕ) (axes : List ℕ) → AreAxesFrom n (axis ∷ axes) → AreAxesFrom (n + 1) axes
more_axes n axis axes are = record { few = omega (arith, are.few); small = (and_parts (leb axis 9223372036854775807) (list_all (λ a. nat_le a 9223372036854775807) axes) are.small).1 }

-- a digit is text
digit_text : (b : ℕ) → is_digit b ≡ true → is_text_byte b ≡ true
digit_text b h = grind arith

-- NAXISn has 8 bytes
pub axis_name_size : (n : ℕ) → n < 1000 → length (axis_name n) ≡ 8
unfolding axis_name
axis_name_size n small =
    let text : List ℕ = codes "NAXIS" ++ decimal n in
    let size : length text ≤ 8 = omega (arith, length-append (codes "NAXIS") (decimal n), length-decimal-le 3 n (omega arith) (omega arith) (omega arith)) in
    omega (arith, size, length-append text (replicate (8 - length text) 32), length-replicate {A = ℕ} (8 - length text) 32)

-- they are text
axis_name_text : (n : ℕ) → n < 1000 → IsText (axis_name n)
unfolding axis_name
axis_name_text n small =
    let text : List ℕ = codes "NAXIS" ++ decimal n in
    let front : IsText (codes "NAXIS") = text_more 78 _ refl (text_more 65 _ refl (text_more 88 _ refl (text_more 73 _ refl (text_more 83 _ refl none_text)))) in
    text_both text (replicate (8 - length text) 32) (text_both (codes "NAXIS") (decimal n) front (narrower is_digit (decimal n) digit_text (decimal_says n (omega arith)).0)) (text_spaces (8 - length text))

-- and may have a value
axis_name_valued : (n : ℕ) → is_valueless (axis_name n) ≡ false
unfolding axis_name is_valueless
axis_name_valued n = refl

-- so NAXISn is a name of a value
pub axis_name_is : (n : ℕ) → n < 1000 → IsValueName (axis_name n)
axis_name_is n small = record { size = axis_name_size n small; text = axis_name_text n small; valued = axis_name_valued n }

-- BITPIX is the name of a card with a value
pub bitpix_name : IsValueName (codes "BITPIX  ")
unfolding is_valueless is_text
bitpix_name = record { size = refl; text = refl; valued = refl }

-- NAXIS is the name of a card with a value
pub naxis_name : IsValueName (codes "NAXIS   ")
unfolding is_valueless is_text
naxis_name = record { size = refl; text = refl; valued = refl }

-- PCOUNT is
pcount_name : IsValueName (codes "PCOUNT  ")
unfolding is_valueless is_text
pcount_name = record { size = refl; text = refl; valued = refl }

-- GCOUNT is
gcount_name : IsValueName (codes "GCOUNT  ")
unfolding is_valueless is_text
gcount_name = record { size = refl; text = refl; valued = refl }

-- BSCALE is
pub bscale_name : IsValueName (codes "BSCALE  ")
unfolding is_valueless is_text
bscale_name = record { size = refl; text = refl; valued = refl }

-- BZERO is
pub bzero_name : IsValueName (codes "BZERO   ")
unfolding is_valueless is_text
bzero_name = record { size = refl; text = refl; valued = refl }

-- each axis is written to its card
pub axis_cards_are : (n : ℕ) (axes : List ℕ) → AreAxesFrom n axes → axis_cards n axes ≡ axis_list n axes
axis_cards_are n [] are = refl
axis_cards_are n (axis ∷ axes) are =
    let one = number_is_one_card (axis_name n) (pos axis) (axis_name_size n (omega (arith, are.few))) (omega (arith, first_small n axis axes are)) in
    rw (one, axis_cards_are (n + 1) axes (more_axes n axis axes are)) refl

-- and so is an offset
scaling_cards_are : (offset : ℤ) → unsigned_abs offset < 2 ^ 64 → scaling_cards offset ≡ scaling_list offset
scaling_cards_are offset small =
    rw (number_is_one_card (codes "BSCALE  ") (pos 1) refl (omega arith), number_is_one_card (codes "BZERO   ") offset refl small) refl

-- the cards of the offset of each kind, as a list
pub offset_cards_are : (kind : Kind) → offset_cards kind ≡ offset_list kind
offset_cards_are U8 = refl
offset_cards_are I8 = scaling_cards_are (negsuc 127) (omega arith)
offset_cards_are I16 = refl
offset_cards_are U16 = scaling_cards_are (pos 32768) (omega arith)
offset_cards_are I32 = refl
offset_cards_are U32 = scaling_cards_are (pos 2147483648) (omega arith)
offset_cards_are I64 = refl
offset_cards_are U64 = scaling_cards_are (pos 9223372036854775808) (omega arith)

-- a pixel has 8 bytes at most
pub width_most : (kind : Kind) → width_of kind ≤ 8
width_most U8 = omega arith
width_most I8 = omega arith
width_most I16 = omega arith
width_most U16 = omega arith
width_most I32 = omega arith
width_most U32 = omega arith
width_most I64 = omega arith
width_most U64 = omega arith

-- each value of a new image is written to one card
pub image_cards_are : (kind : Kind) (axes : List ℕ) → are_axes axes ≡ true → image_cards kind axes ≡ image_list kind axes
unfolding image_cards
image_cards_are kind axes e =
    let are = axes_from axes e in
    let bitpix = number_is_one_card (codes "BITPIX  ") (pos (8 * width_of kind)) refl (omega (arith, width_most kind)) in
    let naxis = number_is_one_card (codes "NAXIS   ") (pos (length axes)) refl (omega (arith, are.few)) in
    let pcount = number_is_one_card (codes "PCOUNT  ") (pos 0) refl (omega arith) in
    let gcount = number_is_one_card (codes "GCOUNT  ") (pos 1) refl (omega arith) in
    rw (image_is_one_card, bitpix, naxis, axis_cards_are 1 axes are, pcount, gcount, offset_cards_are kind) refl

-- BITPIX, NAXIS and the axes, one card each
abbrev pub shape_list : Kind → List ℕ → List (List ℕ)
shape_list kind axes = number_card (codes "BITPIX  ") (pos (8 * width_of kind)) ∷ number_card (codes "NAXIS   ") (pos (length axes)) ∷ axis_list 1 axes

-- each of them is written to one
pub shape_cards_are : (kind : Kind) (axes : List ℕ) → are_axes axes ≡ true → shape_cards kind axes ≡ shape_list kind axes
shape_cards_are kind axes e =
    let are = axes_from axes e in
    let bitpix = number_is_one_card (codes "BITPIX  ") (pos (8 * width_of kind)) refl (omega (arith, width_most kind)) in
    let naxis = number_is_one_card (codes "NAXIS   ") (pos (length axes)) refl (omega (arith, are.few)) in
    rw (bitpix, naxis, axis_cards_are 1 axes are) refl

-- a number's card is one of a header
pub number_inner : (name : List ℕ) (z : ℤ) → IsValueName name → unsigned_abs z < 2 ^ 64 → IsInnerCard (number_card name z)
number_inner name z is small = let card = number_card_is name z is small in card.inner

-- and so are those of axes
axis_list_inner : (n : ℕ) (axes : List ℕ) → AreAxesFrom n axes → All IsInnerCard (axis_list n axes)
axis_list_inner n [] are = All-nil IsInnerCard
axis_list_inner n (axis ∷ axes) are =
    All-cons IsInnerCard (number_card (axis_name n) (pos axis)) (axis_list (n + 1) axes)
    (number_inner (axis_name n) (pos axis) (axis_name_is n (omega (arith, are.few))) (omega (arith, first_small n axis axes are)))
    (axis_list_inner (n + 1) axes (more_axes n axis axes are))

-- and those of a shape
pub shape_cards_inner : (kind : Kind) (axes : List ℕ) → are_axes axes ≡ true → All IsInnerCard (shape_cards kind axes)
shape_cards_inner kind axes e =
    let are = axes_from axes e in
    let naxis = number_inner (codes "NAXIS   ") (pos (length axes)) naxis_name (omega (arith, are.few)) in
    let bitpix = number_inner (codes "BITPIX  ") (pos (8 * width_of kind)) bitpix_name (omega (arith, width_most kind)) in
    subst (All IsInnerCard) (sym (shape_cards_are kind axes e))
    (All-cons IsInnerCard (number_card (codes "BITPIX  ") (pos (8 * width_of kind))) (number_card (codes "NAXIS   ") (pos (length axes)) ∷ axis_list 1 axes) bitpix
    (All-cons IsInnerCard (number_card (codes "NAXIS   ") (pos (length axes))) (axis_list 1 axes) naxis (axis_list_inner 1 axes are)))

-- those of an offset
scaling_inner : (offset : ℤ) → unsigned_abs offset < 2 ^ 64 → All IsInnerCard (scaling_list offset)
scaling_inner offset small =
    let one = number_inner (codes "BSCALE  ") (pos 1) bscale_name (omega arith) in
    let zero = number_inner (codes "BZERO   ") offset bzero_name small in
    All-cons IsInnerCard (number_card (codes "BSCALE  ") (pos 1)) (number_card (codes "BZERO   ") offset ∷ []) one (All-cons IsInnerCard (number_card (codes "BZERO   ") offset) [] zero (All-nil IsInnerCard))

-- the cards of the offset of each kind stand before END
offset_inner : (kind : Kind) → All IsInnerCard (offset_list kind)
offset_inner U8 = All-nil IsInnerCard
offset_inner I8 = scaling_inner (negsuc 127) (omega arith)
offset_inner I16 = All-nil IsInnerCard
offset_inner U16 = scaling_inner (pos 32768) (omega arith)
offset_inner I32 = All-nil IsInnerCard
offset_inner U32 = scaling_inner (pos 2147483648) (omega arith)
offset_inner I64 = All-nil IsInnerCard
offset_inner U64 = scaling_inner (pos 9223372036854775808) (omega arith)

-- those after the axes
later_inner : (kind : Kind) → All IsInnerCard (later_list kind)
later_inner kind =
    let pcount = number_inner (codes "PCOUNT  ") (pos 0) pcount_name (omega arith) in
    let gcount = number_inner (codes "GCOUNT  ") (pos 1) gcount_name (omega arith) in
    All-cons IsInnerCard (number_card (codes "PCOUNT  ") (pos 0)) (number_card (codes "GCOUNT  ") (pos 1) ∷ offset_list kind) pcount (All-cons IsInnerCard (number_card (codes "GCOUNT  ") (pos 1)) (offset_list kind) gcount (offset_inner kind))

-- all of them
image_list_inner : (kind : Kind) (axes : List ℕ) → AreAxesFrom 1 axes → All IsInnerCard (image_list kind axes)
image_list_inner kind axes are =
    let bitpix = number_inner (codes "BITPIX  ") (pos (8 * width_of kind)) bitpix_name (omega (arith, width_most kind)) in
    let naxis = number_inner (codes "NAXIS   ") (pos (length axes)) naxis_name (omega (arith, are.few)) in
    let rest : List (List ℕ) = axis_list 1 axes ++ later_list kind in
    let inner = All-append IsInnerCard (axis_list 1 axes) (later_list kind) (axis_list_inner 1 axes are) (later_inner kind) in
    All-cons IsInnerCard xtension_card (number_card (codes "BITPIX  ") (pos (8 * width_of kind)) ∷ number_card (codes "NAXIS   ") (pos (length axes)) ∷ rest) (xtension_card_is.inner)
    (All-cons IsInnerCard (number_card (codes "BITPIX  ") (pos (8 * width_of kind))) (number_card (codes "NAXIS   ") (pos (length axes)) ∷ rest) bitpix
    (All-cons IsInnerCard (number_card (codes "NAXIS   ") (pos (length axes))) rest naxis inner))

-- the cards of a new image have 80 bytes each, and none is END
pub inner_cards : (kind : Kind) (axes : List ℕ) → are_axes axes ≡ true → All IsInnerCard (image_cards kind axes)
inner_cards kind axes e = subst (All IsInnerCard) (sym (image_cards_are kind axes e)) (image_list_inner kind axes (axes_from axes e))

-- how many cards an offset has
abbrev pub offset_count : Kind → ℕ
offset_count I8 = 2
offset_count U16 = 2
offset_count U32 = 2
offset_count U64 = 2
offset_count kind = 0

-- how many cards the offset of each kind has
offset_list_length : (kind : Kind) → length (offset_list kind) ≡ offset_count kind
offset_list_length U8 = refl
offset_list_length I8 = refl
offset_list_length I16 = refl
offset_list_length U16 = refl
offset_list_length I32 = refl
offset_list_length U32 = refl
offset_list_length I64 = refl
offset_list_length U64 = refl

-- how many axes have
pub axis_list_length : (n : ℕ) (axes : List ℕ) → length (axis_list n axes) ≡ length axes
axis_list_length n [] = refl
axis_list_length n (axis ∷ axes) = ap suc (axis_list_length (n + 1) axes)

-- and how many a new image has
pub count_of_cards : (kind : Kind) (axes : List ℕ) → are_axes axes ≡ true → length (image_cards kind axes) ≡ 5 + length axes + offset_count kind
count_of_cards kind axes e =
    omega (arith, ap length (image_cards_are kind axes e), length-append (axis_list 1 axes) (later_list kind), axis_list_length 1 axes, offset_list_length kind)

-- END without more has 80 bytes
end_size : length (card_of_text (codes "END")) ≡ 80
end_size = refl

-- and ends a header
end_ends : IsEnd (card_of_text (codes "END"))
unfolding is_end
end_ends = refl

-- a card that stands at its place
card_there : (cards : List (List ℕ)) (place : ℕ) (name card : List ℕ) → IsValueCard name card → card_at cards place ≡ Some card → Some card ≡ card_named cards place name
card_there cards place name card is at = named_same cards place name card (sym at) ((bytes_eq-Decides (keyword_name card) name).1 is.named)

-- a number within a limit
within : (limit n : ℕ) → n ≤ limit → up_to limit (pos n) ≡ Some n
within limit n h = cond-true (leb n limit) (Some n) None (le-leb n limit h)

-- XTENSION stands first
image_begins : (kind : Kind) (axes : List ℕ) → first_card false (image_list kind axes) ≡ Some xtension_card
image_begins kind axes =
    sym (first_named (image_list kind axes) false (codes "XTENSION") (Some xtension_card) refl (card_there (image_list kind axes) 1 (codes "XTENSION") xtension_card xtension_card_is refl))

-- BITPIX is one
bitpix_in_width : (kind : Kind) → bitpix_in (pos (8 * width_of kind)) ≡ Some (pos (8 * width_of kind))
bitpix_in_width U8 = refl
bitpix_in_width I8 = refl
bitpix_in_width I16 = refl
bitpix_in_width U16 = refl
bitpix_in_width I32 = refl
bitpix_in_width U32 = refl
bitpix_in_width I64 = refl
bitpix_in_width U64 = refl

-- it stands second
image_bitpix : (kind : Kind) (axes : List ℕ) → bitpix_of (image_list kind axes) ≡ Some (pos (8 * width_of kind))
image_bitpix kind axes =
    let bits : ℤ = pos (8 * width_of kind) in
    let card = number_card (codes "BITPIX  ") bits in
    let small : unsigned_abs bits < 2 ^ 64 = omega (arith, width_most kind) in
    let said : option_and_then bitpix_in (integer_said card) ≡ Some bits = ap (option_and_then bitpix_in) (number_card_said (codes "BITPIX  ") bits bitpix_name small) ∙ bitpix_in_width kind in
    sym (bitpix_there (image_list kind axes) card (Some bits) (card_there (image_list kind axes) 2 (codes "BITPIX  ") card (number_card_is (codes "BITPIX  ") bits bitpix_name small) refl) (sym said))

-- NAXIS stands third
image_naxis : (kind : Kind) (axes : List ℕ) → AreAxesFrom 1 axes → naxis_of (image_list kind axes) ≡ Some (length axes)
image_naxis kind axes are =
    let card = number_card (codes "NAXIS   ") (pos (length axes)) in
    let small : unsigned_abs (pos (length axes)) < 2 ^ 64 = omega (arith, are.few) in
    let said : option_and_then (up_to 999) (integer_said card) ≡ Some (length axes) = ap (option_and_then (up_to 999)) (number_card_said (codes "NAXIS   ") (pos (length axes)) naxis_name small) ∙ within 999 (length axes) (omega (arith, are.few)) in
    sym (naxis_there (image_list kind axes) card (Some (length axes)) (card_there (image_list kind axes) 3 (codes "NAXIS   ") card (number_card_is (codes "NAXIS   ") (pos (length axes)) naxis_name small) refl) (sym said))

-- NAXISn stands n places behind it
axis_at : (first : ℕ) (axes : List ℕ) (tail : List (List ℕ)) (n : ℕ) → n < length axes → slice_get (axis_list first axes ++ tail) n ≡ Some (number_card (axis_name (first + n)) (pos (get_or axes n 0)))
axis_at first [] tail n h = absurd (omega arith)
axis_at first (axis ∷ axes) tail zero h = let same : first ≡ first + 0 = omega arith in ap (λ k. Some (number_card (axis_name k) (pos axis))) same
axis_at first (axis ∷ axes) tail (suc n) h =
    let same : first + 1 + n ≡ first + suc n = omega arith in
    axis_at (first + 1) axes tail n (omega arith) ∙ ap (λ k. Some (number_card (axis_name k) (pos (get_or axes n 0)))) same

-- each axis is in its range
axis_small : (first : ℕ) (axes : List ℕ) (n : ℕ) → AreAxesFrom first axes → n < length axes → get_or axes n 0 ≤ 9223372036854775807
axis_small first [] n are h = absurd (omega arith)
axis_small first (axis ∷ axes) zero are h = first_small first axis axes are
axis_small first (axis ∷ axes) (suc n) are h = axis_small (first + 1) axes n (more_axes first axis axes are) (omega arith)

-- so the axes are there
image_axis : (kind : Kind) (axes : List ℕ) (n : ℕ) → AreAxesFrom 1 axes → n < length axes → axis_of (image_list kind axes) (n + 1) ≡ slice_get axes n
image_axis kind axes n are h =
    let axis : ℕ = get_or axes n 0 in
    let name : List ℕ = axis_name (n + 1) in
    let card = number_card name (pos axis) in
    let most : axis ≤ 9223372036854775807 = axis_small 1 axes n are h in
    let small : unsigned_abs (pos axis) < 2 ^ 64 = omega (arith, most) in
    let is : IsValueName name = axis_name_is (n + 1) (omega (arith, are.few)) in
    let place : 3 + (n + 1) - 1 ≡ suc (suc (suc n)) = omega arith in
    let next : 1 + n ≡ n + 1 = omega arith in
    let at : card_at (image_list kind axes) (3 + (n + 1)) ≡ Some card = ap (slice_get (image_list kind axes)) place ∙ (axis_at 1 axes (later_list kind) n h ∙ ap (λ k. Some (number_card (axis_name k) (pos axis))) next) in
    let said : option_and_then (up_to 9223372036854775807) (integer_said card) ≡ Some axis = ap (option_and_then (up_to 9223372036854775807)) (number_card_said name (pos axis) is small) ∙ within 9223372036854775807 axis most in
    sym (axis_there (image_list kind axes) (n + 1) card (Some axis) (card_there (image_list kind axes) (3 + (n + 1)) name card (number_card_is name (pos axis) is small) at) (sym said))
    ∙ sym (slice_get-get_or axes n 0 h)

-- a name that no card before the counts has
pub record IsLater (name : List ℕ) : Type 0 where
  pub no_xtension : bytes_eq (codes "XTENSION") name ≡ false
  pub no_bitpix : bytes_eq (codes "BITPIX  ") name ≡ false
  pub no_naxis : bytes_eq (codes "NAXIS   ") name ≡ false
  pub no_axis : (n : ℕ) → bytes_eq (axis_name n) name ≡ false

-- a card of another name is no lead
pub passed : (name other card : List ℕ) (cards : List (List ℕ)) → IsValueCard other card → bytes_eq other name ≡ false → from_lead name (card ∷ cards) ≡ from_lead name cards
unfolding is_value_of
passed name other card cards is differs =
    let no : is_value_of name card ≡ false = ap (λ (x : List ℕ). bytes_eq x name && has_value card) is.named ∙ ap (λ b. b && has_value card) differs in
    cond-false (is_value_of name card) _ _ no

-- the first one of the name is
pub leads_here : (name card : List ℕ) (cards : List (List ℕ)) → IsValueCard name card → from_lead name (card ∷ cards) ≡ Some (card, cards)
unfolding is_value_of
leads_here name card cards is = cond-true (is_value_of name card) _ _ (and_from _ _ ((bytes_eq-Decides (keyword_name card) name).1 is.named) is.valued)

-- no axis is the lead of such a name
axes_passed : (name : List ℕ) (first : ℕ) (axes : List ℕ) (tail : List (List ℕ)) → IsLater name → AreAxesFrom first axes → from_lead name (axis_list first axes ++ tail) ≡ from_lead name tail
axes_passed name first [] tail later are = refl
axes_passed name first (axis ∷ axes) tail later are =
    passed name (axis_name first) (number_card (axis_name first) (pos axis)) (axis_list (first + 1) axes ++ tail)
    (number_card_is (axis_name first) (pos axis) (axis_name_is first (omega (arith, are.few))) (omega (arith, first_small first axis axes are))) (later.no_axis first)
    ∙ axes_passed name (first + 1) axes tail later (more_axes first axis axes are)

-- so its lead stands behind them
later_lead : (name : List ℕ) (kind : Kind) (axes : List ℕ) → IsLater name → AreAxesFrom 1 axes → from_lead name (image_list kind axes) ≡ from_lead name (later_list kind)
later_lead name kind axes later are =
    let rest : List (List ℕ) = axis_list 1 axes ++ later_list kind in
    let bits : ℤ = pos (8 * width_of kind) in
    let bitpix = number_card (codes "BITPIX  ") bits in
    let naxis = number_card (codes "NAXIS   ") (pos (length axes)) in
    passed name (codes "XTENSION") xtension_card (bitpix ∷ naxis ∷ rest) xtension_card_is later.no_xtension
    ∙ (passed name (codes "BITPIX  ") bitpix (naxis ∷ rest) (number_card_is (codes "BITPIX  ") bits bitpix_name (omega (arith, width_most kind))) later.no_bitpix
    ∙ (passed name (codes "NAXIS   ") naxis rest (number_card_is (codes "NAXIS   ") (pos (length axes)) naxis_name (omega (arith, are.few))) later.no_naxis
    ∙ axes_passed name 1 axes (later_list kind) later are))

-- PCOUNT stands after the axes
pcount_later : IsLater (codes "PCOUNT  ")
unfolding axis_name
pcount_later = record { no_xtension = refl; no_bitpix = refl; no_naxis = refl; no_axis = λ n. refl }

-- GCOUNT stands after the axes
gcount_later : IsLater (codes "GCOUNT  ")
unfolding axis_name
gcount_later = record { no_xtension = refl; no_bitpix = refl; no_naxis = refl; no_axis = λ n. refl }

-- BSCALE does
pub bscale_later : IsLater (codes "BSCALE  ")
unfolding axis_name
bscale_later = record { no_xtension = refl; no_bitpix = refl; no_naxis = refl; no_axis = λ n. refl }

-- BZERO does
pub bzero_later : IsLater (codes "BZERO   ")
unfolding axis_name
bzero_later = record { no_xtension = refl; no_bitpix = refl; no_naxis = refl; no_axis = λ n. refl }

-- PCOUNT is a card with a value
pub pcount_is : IsValueCard (codes "PCOUNT  ") (number_card (codes "PCOUNT  ") (pos 0))
pcount_is = number_card_is (codes "PCOUNT  ") (pos 0) pcount_name (omega arith)

-- GCOUNT is a card with a value
pub gcount_is : IsValueCard (codes "GCOUNT  ") (number_card (codes "GCOUNT  ") (pos 1))
gcount_is = number_card_is (codes "GCOUNT  ") (pos 1) gcount_name (omega arith)

-- the lead of a name, by what stands behind the axes
pub lead_by : (name : List ℕ) (kind : Kind) (axes : List ℕ) (lead : Option From) → IsLater name → AreAxesFrom 1 axes → from_lead name (later_list kind) ≡ lead → lead_card (image_list kind axes) name ≡ option_map (λ (f : From). f.0) lead
lead_by name kind axes lead later are e = lead_card_is (image_list kind axes) name ∙ ap (option_map (λ (f : From). f.0)) (later_lead name kind axes later are ∙ e)

-- that of PCOUNT
pub pcount_lead : (kind : Kind) (axes : List ℕ) → AreAxesFrom 1 axes → lead_card (image_list kind axes) (codes "PCOUNT  ") ≡ Some (number_card (codes "PCOUNT  ") (pos 0))
pcount_lead kind axes are =
    lead_by (codes "PCOUNT  ") kind axes _ pcount_later are (leads_here (codes "PCOUNT  ") (number_card (codes "PCOUNT  ") (pos 0)) (number_card (codes "GCOUNT  ") (pos 1) ∷ offset_list kind) pcount_is)

-- and that of GCOUNT
pub gcount_lead : (kind : Kind) (axes : List ℕ) → AreAxesFrom 1 axes → lead_card (image_list kind axes) (codes "GCOUNT  ") ≡ Some (number_card (codes "GCOUNT  ") (pos 1))
gcount_lead kind axes are =
    let pcount = number_card (codes "PCOUNT  ") (pos 0) in
    let gcount = number_card (codes "GCOUNT  ") (pos 1) in
    lead_by (codes "GCOUNT  ") kind axes _ gcount_later are (passed (codes "GCOUNT  ") (codes "PCOUNT  ") pcount (gcount ∷ offset_list kind) pcount_is refl ∙ leads_here (codes "GCOUNT  ") gcount (offset_list kind) gcount_is)

-- a count of an image is what its lead says
lead_counts : (lead : Option (List ℕ)) (card : List ℕ) (default n : ℕ) → lead ≡ Some card → integer_said card ≡ Some (pos n) → n ≤ 9223372036854775807 → count_of Image lead default ≡ Some n
unfolding count_of
lead_counts lead card default n is said small =
    ap (λ l. count_said l default) is ∙ (ap (option_and_then (up_to 9223372036854775807)) said ∙ within 9223372036854775807 n small)

-- the class is that of an image
image_class : (axes : List ℕ) (groups : Option (List ℕ)) → class_of false xtension_card axes groups ≡ Image
unfolding class_of
image_class axes groups = ap extension_class xtension_card_said

-- the cards describe the image
pub image_list_describes : (kind : Kind) (axes : List ℕ) → AreAxesFrom 1 axes → Describes false (image_list kind axes) (image_shape kind axes)
image_list_describes kind axes are = record {
  first = xtension_card;
  begins = image_begins kind axes;
  bitpix = image_bitpix kind axes;
  naxis = image_naxis kind axes are;
  axes = λ n h. image_axis kind axes n are h;
  class = image_class axes (lead_card (image_list kind axes) (codes "GROUPS  "));
  pcount = lead_counts (lead_card (image_list kind axes) (codes "PCOUNT  ")) (number_card (codes "PCOUNT  ") (pos 0)) 0 0 (pcount_lead kind axes are) (number_card_said (codes "PCOUNT  ") (pos 0) pcount_name (omega arith)) (omega arith);
  gcount = lead_counts (lead_card (image_list kind axes) (codes "GCOUNT  ")) (number_card (codes "GCOUNT  ") (pos 1)) 1 1 (gcount_lead kind axes are) (number_card_said (codes "GCOUNT  ") (pos 1) gcount_name (omega arith)) (omega arith);
}

-- so they have its shape
pub described : (kind : Kind) (axes : List ℕ) → are_axes axes ≡ true → shape_of false (image_cards kind axes) ≡ Ok (image_shape kind axes)
described kind axes e =
    ap (shape_of false) (image_cards_are kind axes e) ∙ describes false (image_list kind axes) (image_shape kind axes) (image_list_describes kind axes (axes_from axes e))

-- the header of a new image is one
pub new_is_header : (kind : Kind) (axes : List ℕ) → are_axes axes ≡ true → IsHeader (new_header (image_cards kind axes))
new_is_header kind axes e = record {
  cards = inner_cards kind axes e;
  end_size = end_size;
  ends = end_ends;
  fill_size = length-replicate {A = ℕ} (fill_length (length (image_cards kind axes))) 32;
}
