-- A new image is an HDU, of so many bytes, and isn't called anything.
use Rattle.std.proofs.Common.{◌≡◌, ℕ, ◌+◌, ◌*◌, ◌^◌, ◌<◌, true, false, List, [], ◌∷◌, length, replicate, codes, refl, ap, ◌∙◌, arith, Option, None, Some, length-append}
use Rattle.std.specs.Prelude.{ℤ, pos, negsuc, unsigned_abs, option_and_then}
use Rattle.std.proofs.lemmas.List.{length-replicate, length-append}
use Rattle.fits_card.specs.Header.{Header, card_at, fill_length, header_bytes, header_length, new_header}
use Rattle.fits_card.proofs.HeaderLemmas.{length-header_bytes}
use Rattle.fits_rules.specs.Lead.{lead_card}
use Rattle.fits_rules.specs.Reads.{string_said}
use Rattle.fits_rules.specs.Shape.{axis_name}
use Rattle.fits_rules.specs.Size.{data_length}
use Rattle.fits_passing.specs.Hdu.{IsHdu, hdu_bytes, HduParts}
use Rattle.fits_image.specs.ImageCards.{are_axes, image_cards, image_shape}
use Rattle.fits_hdu.specs.NewImage.{new_image}
use Rattle.fits_image.specs.declared.kind.Kind.{Kind}
use Rattle.fits_image.specs.declared.kind.Kind.TheVariants.{U8, I8, I16, U16, I32, U32, I64, U64}
use Rattle.fits_image.proofs.LeadFromLemmas.{from_lead}
use Rattle.fits_image.proofs.NumberCardLemmas.{number_card, number_card_is}
use Rattle.fits_rules.specs.declared.array_shape.Shape.{Shape}
use Rattle.fits_image.proofs.ImageHeaderLemmas.{new_described}
use Rattle.fits_image.proofs.ImageKindLemmas.{behind_counts, bscale_is}
use Rattle.fits_image.proofs.ImageCardLemmas.{new_is_header, offset_count, count_of_cards, described, axes_from, IsLater, bzero_name, image_cards_are, image_list, lead_by, offset_list, passed, scaling_list}
use Rattle.fits_passing.specs.ExtensionName.{called, extension_name, version_said}

-- a new image is an HDU
pub new_is_hdu : (kind : Kind) (axes : List ℕ) → are_axes axes ≡ true → IsHdu false (new_image kind axes)
unfolding new_image
new_is_hdu kind axes e = record {
  shape = image_shape kind axes;
  header = new_is_header kind axes e;
  described = described kind axes e;
  size = length-replicate {A = ℕ} (data_length (image_shape kind axes)) 0;
}

-- how many bytes it has
pub new_length : (kind : Kind) (axes : List ℕ) → are_axes axes ≡ true → length (hdu_bytes (new_image kind axes)) ≡ header_length (5 + length axes + offset_count kind) + data_length (image_shape kind axes)
unfolding new_image
new_length kind axes e =
    let header : Header = new_header (image_cards kind axes) in
    let unit : List ℕ = replicate (data_length (image_shape kind axes)) 0 in
    let size : length (header_bytes header) ≡ header_length (length (image_cards kind axes)) =
    length-header_bytes header (new_is_header kind axes e) ∙ ap (λ n. 80 * (length (image_cards kind axes) + 1) + n) (length-replicate {A = ℕ} (fill_length (length (image_cards kind axes))) 32) in
    omega (arith, size, ap header_length (count_of_cards kind axes e), length-append (header_bytes header) unit, length-replicate {A = ℕ} (data_length (image_shape kind axes)) 0)

-- HDUs are alike where their parts are
same_parts : (header header' : Header) (unit unit' : List ℕ) → header ≡ header' → unit ≡ unit' → (let x : HduParts = record { header = header; data_unit = unit } in x) ≡ record { header = header'; data_unit = unit' }
same_parts header header' unit unit' p q = cc

-- what is made is the new image
pub new_made : (kind : Kind) (shape : Shape) (hdu : HduParts) (len : ℕ) → shape ≡ image_shape kind shape.axes → hdu.header ≡ new_header (image_cards kind shape.axes) → hdu.data_unit ≡ replicate len 0 → len ≡ data_length shape → hdu ≡ new_image kind shape.axes
unfolding new_image
new_made kind shape hdu len e p q l = same_parts _ _ _ _ p (q ∙ ap (λ n. replicate n 0) (l ∙ ap data_length e))

pub ruleset make_steps = (new_described, new_made)

-- how many bytes a new image has
new_size : (kind : Kind) (shape : Shape) → shape ≡ image_shape kind shape.axes → are_axes shape.axes ≡ true → length (hdu_bytes (new_image kind shape.axes)) ≡ header_length (length (image_cards kind shape.axes)) + data_length shape
unfolding new_image
new_size kind shape e may =
    let cards = image_cards kind shape.axes in
    let header = new_header cards in
    let whole = new_is_hdu kind shape.axes may in
    let unit : List ℕ = replicate (data_length (image_shape kind shape.axes)) 0 in
    omega (arith, length-append (header_bytes header) unit, length-header_bytes header whole.header, whole.header.fill_size, length-replicate {A = ℕ} (data_length (image_shape kind shape.axes)) 0, ap data_length e)

-- by its parts
pub size_is : (kind : Kind) (shape : Shape) (n header unit : ℕ) → shape ≡ image_shape kind shape.axes → are_axes shape.axes ≡ true → n ≡ length (image_cards kind shape.axes) → header ≡ header_length n → unit ≡ data_length shape → header + unit ≡ length (hdu_bytes (new_image kind shape.axes))
size_is kind shape n header unit e may p q r = omega (arith, q ∙ ap header_length p, r, new_size kind shape e may)

-- and more than its data unit
pub size_more : (kind : Kind) (shape : Shape) (most : ℕ) → shape ≡ image_shape kind shape.axes → are_axes shape.axes ≡ true → most < data_length shape → most < length (hdu_bytes (new_image kind shape.axes))
size_more kind shape most e may more = omega (arith, more, new_size kind shape e may)

pub ruleset size_steps = (size_is, size_more)

-- EXTNAME would stand after the axes
extname_later : IsLater (codes "EXTNAME ")
unfolding axis_name
extname_later = record { no_xtension = refl; no_bitpix = refl; no_naxis = refl; no_axis = λ n. refl }

-- no card of an offset is its lead
scaling_unnamed : (offset : ℤ) → unsigned_abs offset < 2 ^ 64 → from_lead (codes "EXTNAME ") (scaling_list offset) ≡ None
scaling_unnamed offset small =
    let zero = number_card (codes "BZERO   ") offset in
    passed (codes "EXTNAME ") (codes "BSCALE  ") (number_card (codes "BSCALE  ") (pos 1)) (zero ∷ []) bscale_is refl
    ∙ passed (codes "EXTNAME ") (codes "BZERO   ") zero [] (number_card_is (codes "BZERO   ") offset bzero_name small) refl

-- of no kind
offset_unnamed : (kind : Kind) → from_lead (codes "EXTNAME ") (offset_list kind) ≡ None
offset_unnamed U8 = refl
offset_unnamed I8 = scaling_unnamed (negsuc 127) (omega arith)
offset_unnamed I16 = refl
offset_unnamed U16 = scaling_unnamed (pos 32768) (omega arith)
offset_unnamed I32 = refl
offset_unnamed U32 = scaling_unnamed (pos 2147483648) (omega arith)
offset_unnamed I64 = refl
offset_unnamed U64 = scaling_unnamed (pos 9223372036854775808) (omega arith)

-- without a name nothing is called anything
called_nothing : (xtension : Option (List ℕ)) (version : ℤ) → called xtension None version ≡ None
called_nothing None version = refl
called_nothing (Some text) version = refl

-- so a new image isn't
pub new_unnamed : (kind : Kind) (axes : List ℕ) → are_axes axes ≡ true → extension_name false (image_cards kind axes) ≡ None
unfolding extension_name
new_unnamed kind axes e =
    let cards : List (List ℕ) = image_list kind axes in
    let none : lead_card cards (codes "EXTNAME ") ≡ None = lead_by (codes "EXTNAME ") kind axes None extname_later (axes_from axes e) (behind_counts (codes "EXTNAME ") kind refl refl ∙ offset_unnamed kind) in
    ap (extension_name false) (image_cards_are kind axes e)
    ∙ (ap (λ said. called (option_and_then string_said (card_at cards 1)) (option_and_then string_said said) (version_said (lead_card cards (codes "EXTVER  ")))) none
    ∙ called_nothing (option_and_then string_said (card_at cards 1)) (version_said (lead_card cards (codes "EXTVER  "))))
