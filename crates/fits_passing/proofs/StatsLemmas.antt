-- Steps of an HDU that passes by, of which the statistics are told.
use Rattle.std.proofs.Common.{◌≡◌, ◌≤◌, ◌^◌, arith, ℤ, to_z, of_z, ℕ, Bool, List, length, refl, ap, ◌∙◌, Option, None, Some}
use Rattle.std.specs.Prelude.{unsigned_abs, Ok}
use Rattle.std.specs.Int.{w128}
use Rattle.std.proofs.lemmas.Int.{fits_signed_from_abs, to_z-of_z}
use Rattle.fits_image.specs.Kind.{offset_of, convention, has_offset, kind_in, kind_of}
use Rattle.fits_image.specs.declared.kind.Kind.{Kind}
use Rattle.fits_image.specs.declared.kind.Kind.TheVariants.{U8, I8, I16, U16, I32, U32, I64, U64}
use Rattle.std.specs.Option.{option_map}
use Rattle.fits_card.specs.Header.{Header}
use Rattle.fits_pixels.specs.Layout.{IsLayout}
use Rattle.fits_pixels.specs.declared.layout.Layout.{Layout}
use Rattle.fits_rules.specs.Class.{is_primary}
use Rattle.fits_rules.specs.Image.{image_bits}
use Rattle.fits_rules.specs.Shape.{shape_of}
use Rattle.fits_rules.specs.Size.{data_length}
use Rattle.fits_rules.specs.declared.array_shape.Shape.{Shape}
use Rattle.fits_passing.specs.Layout.{layout_of}
use Rattle.fits_passing.specs.PassingStats.{image_pixels, pixels_of_kind, values_of}
use Rattle.fits_passing.specs.Stats.{AreStatsOf, Stats, stats_of}
use Rattle.fits_passing.specs.declared.image_pixels.ImagePixels.{ImagePixels}
use Rattle.fits_passing.proofs.LayoutLemmas.{layout_fits}
use Rattle.fits_passing.proofs.ReadingLemmas.{described_so}

-- no offset is larger than 2^63
pub small_offset : (kind : Kind) → unsigned_abs (offset_of kind) ≤ 2 ^ 63
small_offset U8 = omega arith
small_offset I8 = omega arith
small_offset I16 = omega arith
small_offset U16 = omega arith
small_offset I32 = omega arith
small_offset U32 = omega arith
small_offset I64 = omega arith
small_offset U64 = omega arith

-- so an offset is a number of 128 bits
pub offset_fits : (kind : Kind) (offset : ℤ) → offset ≡ offset_of kind → to_z w128 (of_z w128 offset) ≡ offset
offset_fits kind offset is =
    let small : unsigned_abs offset ≤ 2 ^ 63 = rw is (small_offset kind) in
    to_z-of_z w128 offset (fits_signed_from_abs w128 offset (omega (arith, small)))

-- ---- how the pixels are read

-- of an image
pub image_some : (shape : Shape) (cards : List (List ℕ)) (bits : ℕ) (layout : Layout) (kind : Kind) → Some bits ≡ image_bits shape → layout ≡ layout_of shape cards → kind ≡ kind_of bits (has_offset cards (convention bits))
    → Some (let it : ImagePixels = record { layout = layout; kind = kind } in it) ≡ image_pixels shape cards
unfolding kind_in
image_some shape cards bits layout kind image is found = rw (← image, is, found) refl

-- of what is none
pub image_none : (shape : Shape) (cards : List (List ℕ)) → None ≡ image_bits shape → None ≡ image_pixels shape cards
unfolding kind_in
image_none shape cards image = rw (← image) refl

-- and their layout fits the data unit
image_fits : (shape : Shape) (cards : List (List ℕ)) (found : Option Kind) (image : ImagePixels) → shape_of (is_primary shape.class) cards ≡ Ok shape → Some image ≡ option_map (pixels_of_kind shape cards) found → (unit : List ℕ) → length unit ≡ data_length shape → length unit ≤ 2 ^ 34
    → IsLayout image.layout unit
image_fits shape cards None image described is unit size small = cc
image_fits shape cards (Some kind) image described is unit size small = let same : image ≡ pixels_of_kind shape cards kind = cc in rw same (layout_fits shape cards unit described size small)

-- so does that of those that were found
pub found_fits : (shape : Shape) (cards : List (List ℕ)) (image : ImagePixels) → shape_of (is_primary shape.class) cards ≡ Ok shape → Some image ≡ image_pixels shape cards → (unit : List ℕ) → length unit ≡ data_length shape → length unit ≤ 2 ^ 34 → IsLayout image.layout unit
found_fits shape cards image described is unit size small = image_fits shape cards (kind_in shape cards) image described is unit size small

-- ---- its statistics

-- the statistics of a data unit are its HDU's
stats_are : (shape : Shape) (header : Header) (unit : List ℕ) (found : Option Kind) → kind_in shape header.cards ≡ found → option_map (values_of unit) (option_map (pixels_of_kind shape header.cards) found) ≡ stats_of shape (record { header = header; data_unit = unit })
unfolding stats_of
stats_are shape header unit None e = rw e refl
stats_are shape header unit (Some kind) e = rw e refl

-- so are those that are told of it, by how its pixels are read
pub stats_told : (primary : Bool) (shape : Shape) (header : Header) (unit : List ℕ) (image : Option ImagePixels) (stats : Option Stats) → shape_of primary header.cards ≡ Ok shape → image ≡ image_pixels shape header.cards → stats ≡ option_map (values_of unit) image
    → AreStatsOf stats (record { header = header; data_unit = unit })
stats_told primary shape header unit image stats described is are = record {
  shape = shape;
  described = described_so primary header.cards shape described;
  are = are ∙ ap (option_map (values_of unit)) is ∙ stats_are shape header unit (kind_in shape header.cards) refl;
}
