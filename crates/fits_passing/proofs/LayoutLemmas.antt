-- The layout of a data unit: what it is by the shape, and that it fits the bytes that a shape describes.
use Rattle.std.proofs.Common.{◌≡◌, inl, inr, ℕ, ◌+◌, ◌*◌, ◌/◌, ◌%◌, ◌^◌, ◌≤◌, ◌<◌, Bool, true, false, IsTrue, ◌||◌, ℤ, pos, negsuc, List, [], ◌∷◌, length, Option, None, Some, refl, ap, sym, ◌∙◌, mul_comm, arith}
use Rattle.std.specs.Prelude.{◌==◌, nat_lt, unsigned_abs, Ok, if◌then◌else◌}
use Rattle.std.proofs.lemmas.Bool.{false≢true, and_parts, or_cases, eqb-true}
use Rattle.std.proofs.Math.Nat.{mul-div_cancel_left}
use Rattle.fits_codes.specs.HeaderCodes.{blank_said}
use Rattle.fits_pixels.specs.Layout.{IsLayout}
use Rattle.fits_pixels.specs.Pixels.{IsWidth}
use Rattle.fits_pixels.specs.declared.layout.Layout.{Layout}
use Rattle.fits_plane.specs.Rectangle.{product}
use Rattle.fits_rules.specs.Class.{is_primary}
use Rattle.fits_rules.specs.Image.{array_bits, image_bits, integer_bits, is_array}
use Rattle.fits_rules.specs.Shape.{is_bitpix, shape_of}
use Rattle.fits_rules.specs.Size.{array_values, data_length, data_size, value_bytes, values_in}
use Rattle.fits_rules.specs.Size as size
use Rattle.fits_rules.specs.declared.array_shape.Shape.{Shape}
use Rattle.fits_rules.specs.declared.class.Class.{Class}
use Rattle.fits_rules.specs.declared.class.Class.TheVariants.{Primary, Groups, Image, Table, Other}
use Rattle.fits_rules.proofs.LawLemmas.{shape_bounded}
use Rattle.fits_passing.specs.Layout.{blank_number, layout_by, layout_of, layout_of_bytes}

-- the pixels that axes span are the product of the axes
spanned : (axes : List ℕ) → size.product axes ≡ product axes
spanned [] = refl
spanned (axis ∷ axes) = ap (λ n. axis * n) (spanned axes)

-- so an array that has an axis has as many values as pixels
pub array_spanned : (axes : List ℕ) → nat_lt 0 (length axes) ≡ true → array_values axes ≡ product axes
array_spanned [] some = absurd (false≢true some)
array_spanned (axis ∷ axes) some = spanned (axis ∷ axes)

-- without groups and without values after it
image_values : (pcount gcount values : ℕ) → (pcount == 0) ≡ true → (gcount == 1) ≡ true → gcount * (pcount + values) ≡ values
image_values pcount gcount values none one = rw (eqb-true pcount 0 none, eqb-true gcount 1 one) (omega arith)

-- the values of an array are those that its axes span (3.3.2, 7.1)
pub array_values_are : (class : Class) (shape : Shape) → is_array class shape.pcount shape.gcount ≡ true → values_in class shape ≡ array_values shape.axes
array_values_are Primary shape array = refl
array_values_are Image shape array =
    let counts = and_parts (shape.pcount == 0) (shape.gcount == 1) array in
    image_values shape.pcount shape.gcount (array_values shape.axes) counts.0 counts.1
array_values_are Groups shape array = absurd (false≢true array)
array_values_are Table shape array = absurd (false≢true array)
array_values_are Other shape array = absurd (false≢true array)

-- where there is an axis they are its pixels
values_are : (class : Class) (shape : Shape) → is_array class shape.pcount shape.gcount ≡ true → nat_lt 0 (length shape.axes) ≡ true → values_in class shape ≡ product shape.axes
values_are class shape array some = array_values_are class shape array ∙ array_spanned shape.axes some

-- what was kept by a test passed it
pub kept : {X : Type 0} (b : Bool) (o : Option X) (x : X) → (if b then o else None) ≡ Some x → (b ≡ true) × (o ≡ Some x)
kept true o x e = (refl, e)
kept false o x e = cc

-- the bits of an integer are those of BITPIX, and make whole bytes (4.4.1.1)
record IsInteger (bitpix : ℤ) (bits : ℕ) : Type 0 where
  pub is : bitpix ≡ pos bits
  pub width : IsWidth (bits / 8)

-- numbers of bits that BITPIX may say
widths : (bits : ℕ) → ((bits == 8) || (bits == 16) || (bits == 32) || (bits == 64)) ≡ true → IsWidth (bits / 8)
widths bits e = elim (or_cases ((bits == 8) || (bits == 16) || (bits == 32)) (bits == 64) e) [
  | inl e ↦ elim (or_cases ((bits == 8) || (bits == 16)) (bits == 32) e) [
    | inl e ↦ elim (or_cases (bits == 8) (bits == 16) e) [
      | inl f ↦ inl (ap (λ n. n / 8) (eqb-true bits 8 f))
      | inr f ↦ inr (inl (ap (λ n. n / 8) (eqb-true bits 16 f)))
    ]
    | inr f ↦ inr (inr (inl (ap (λ n. n / 8) (eqb-true bits 32 f))))
  ]
  | inr f ↦ inr (inr (inr (ap (λ n. n / 8) (eqb-true bits 64 f))))
]

-- so an integer's are one of them
integer_is : (bitpix : ℤ) (bits : ℕ) → IsTrue (is_bitpix bitpix) → integer_bits bitpix ≡ Some bits → IsInteger bitpix bits
integer_is (pos n) bits may e = let same : n ≡ bits = cc in record { is = ap pos same; width = widths bits (rw (← same) may) }
integer_is (negsuc n) bits may e = cc

-- the bits of an image's pixels, and how many bytes its data have (4.4.1.1, 4.4.1.2)
record IsImage (shape : Shape) (bits : ℕ) : Type 0 where
  pub width : IsWidth (bits / 8)
  pub size : data_size shape ≡ bits / 8 * product shape.axes

-- an image that cards describe
image_is : (shape : Shape) (cards : List (List ℕ)) (bits : ℕ) → shape_of (is_primary shape.class) cards ≡ Ok shape → image_bits shape ≡ Some bits → IsImage shape bits
unfolding image_bits array_bits data_size
image_is shape cards bits described e =
    let bounded = shape_bounded (is_primary shape.class) cards shape described in
    let some = kept (nat_lt 0 (length shape.axes)) (array_bits shape) bits e in
    let array = kept (is_array shape.class shape.pcount shape.gcount) (integer_bits shape.bitpix) bits some.1 in
    let integer = integer_is shape.bitpix bits bounded.bitpix array.1 in
    let bytes : value_bytes shape ≡ bits / 8 = ap (λ z. unsigned_abs z / 8) integer.is in
    record { width = integer.width; size = ap (λ n. n * values_in shape.class shape) bytes ∙ ap (λ n. bits / 8 * n) (values_are shape.class shape array.0 some.0) }

-- a width is not 0
width_some : (width : ℕ) → IsWidth width → 0 < width
width_some width w = elim w [
  | inl e ↦ omega (arith, e)
  | inr w ↦ elim w [
    | inl e ↦ omega (arith, e)
    | inr w ↦ elim w [
      | inl e ↦ omega (arith, e)
      | inr e ↦ omega (arith, e)
    ]
  ]
]

-- an image's pixels have some bytes
pub image_some : (shape : Shape) (cards : List (List ℕ)) (bits : ℕ) → shape_of (is_primary shape.class) cards ≡ Ok shape → Some bits ≡ image_bits shape → 0 < bits / 8
image_some shape cards bits described e = width_some (bits / 8) (image_is shape cards bits described (sym e)).width

-- the layout of an image's pixels
pub pixels_read : (shape : Shape) (cards : List (List ℕ)) (bits : ℕ) (bytes : Layout) (blank : Option ℤ) → shape_of (is_primary shape.class) cards ≡ Ok shape → Some bits ≡ image_bits shape → bytes ≡ layout_of_bytes shape → blank ≡ blank_number (blank_said cards)
    → record bytes { width = bits / 8; pixels = bytes.used / (bits / 8); blank = blank } ≡ layout_of shape cards
unfolding layout_of
pixels_read shape cards bits bytes blank described image is b =
    let found = image_is shape cards bits described (sym image) in
    let pixels : data_size shape / (bits / 8) ≡ product shape.axes = ap (λ n. n / (bits / 8)) found.size ∙ mul-div_cancel_left (product shape.axes) (width_some (bits / 8) found.width) in
    rw (← image, is, b) (ap (λ n. record (layout_of_bytes shape) { width = bits / 8; pixels = n; blank = blank_number (blank_said cards) }) pixels)

-- and that of what is no image
pub bytes_read : (shape : Shape) (cards : List (List ℕ)) (bytes : Layout) → None ≡ image_bits shape → bytes ≡ layout_of_bytes shape → bytes ≡ layout_of shape cards
unfolding layout_of
bytes_read shape cards bytes image is = is ∙ rw (← image) refl

-- the undefined number of an image
pub blank_of_pixels : (shape : Shape) (cards : List (List ℕ)) (bits : ℕ) → Some bits ≡ image_bits shape → blank_number (blank_said cards) ≡ (layout_of shape cards).blank
unfolding layout_of
blank_of_pixels shape cards bits image = rw (← image) refl

-- and of bytes alone
pub blank_of_bytes : (shape : Shape) (cards : List (List ℕ)) → None ≡ image_bits shape → None ≡ (layout_of shape cards).blank
unfolding layout_of
blank_of_bytes shape cards image = rw (← image) refl

-- by the bits, other cards move the undefined number alone
kept_by : (image : Option ℕ) (shape : Shape) (before after : List (List ℕ)) → layout_by image shape before ≡ record (layout_by image shape after) { blank = (layout_by image shape before).blank }
kept_by None shape before after = refl
kept_by (Some bits) shape before after = refl

-- other cards of a shape move the undefined number alone
pub layout_kept : (shape : Shape) (before after : List (List ℕ)) (layout : Layout) → layout ≡ layout_of shape before → layout ≡ record (layout_of shape after) { blank = layout.blank }
unfolding layout_of
layout_kept shape before after layout e = rw (e) (kept_by (image_bits shape) shape before after)

-- bytes that are as many as a shape describes hold the data, in whole blocks (3.1)
whole_blocks : (shape : Shape) (n : ℕ) → n ≡ data_length shape → (data_size shape ≤ n) × (n % 2880 ≡ 0)
unfolding data_length
whole_blocks shape n e = (omega (arith, e), omega (arith, e))

-- so the data are within what bounds them
pub data_within : (shape : Shape) (n : ℕ) → n ≡ data_length shape → n ≤ 2 ^ 34 → data_size shape ≤ 2 ^ 34
data_within shape n e small = omega (arith, small, (whole_blocks shape n e).0)

-- bytes alone fit their layout
pub bytes_fit : (shape : Shape) (bytes : List ℕ) → length bytes ≡ data_length shape → length bytes ≤ 2 ^ 34 → IsLayout (layout_of_bytes shape) bytes
bytes_fit shape bytes size small =
    let blocks = whole_blocks shape (length bytes) size in
    record { width = inl refl; no_pixels = λ none. refl; room = omega arith; used = blocks.0; whole = blocks.1; limit = small }

-- by the bits, the layout fits
fits_by : (image : Option ℕ) (shape : Shape) (cards : List (List ℕ)) (bytes : List ℕ) → shape_of (is_primary shape.class) cards ≡ Ok shape → image_bits shape ≡ image → length bytes ≡ data_length shape → length bytes ≤ 2 ^ 34
    → IsLayout (layout_by image shape cards) bytes
fits_by None shape cards bytes described image size small = bytes_fit shape bytes size small
fits_by (Some bits) shape cards bytes described image size small =
    let blocks = whole_blocks shape (length bytes) size in
    let found = image_is shape cards bits described image in
    let some = width_some (bits / 8) found.width in
    let room : product shape.axes * (bits / 8) ≡ data_size shape = mul_comm (product shape.axes) (bits / 8) ∙ sym found.size in
    record { width = inr found.width; no_pixels = λ none. absurd (omega (arith, some, none)); room = omega (arith, room); used = blocks.0; whole = blocks.1; limit = small }

-- a layout fits the bytes that its shape describes
pub layout_fits : (shape : Shape) (cards : List (List ℕ)) (bytes : List ℕ) → shape_of (is_primary shape.class) cards ≡ Ok shape → length bytes ≡ data_length shape → length bytes ≤ 2 ^ 34 → IsLayout (layout_of shape cards) bytes
unfolding layout_of
layout_fits shape cards bytes described size small = fits_by (image_bits shape) shape cards bytes described refl size small

pub ruleset layout_steps = (image_some, pixels_read, bytes_read, blank_of_pixels, blank_of_bytes, data_within, layout_fits)
