-- The kind of an integer image: the type of its pixels, by BITPIX and by the offset of the conventions for unsigned integers
-- and signed bytes (FITS Standard 4.0, sections 4.4.2.5 and 5.2.5).
use Rattle.std.specs.Prelude.{ℕ, ◌==◌, Bool, ◌&&◌, ◌||◌, true, false, ℤ, pos, negsuc, List, codes, Option, is_none, if◌then◌else◌}
use Rattle.std.specs.Option.{option_map}
use Rattle.fits_rules.specs.Denotes.{lead_says_number}
use Rattle.fits_rules.specs.Image.{array_bits, image_bits}
use Rattle.fits_rules.specs.Lead.{lead_card}
use Rattle.fits_rules.specs.declared.array_shape.Shape.{Shape}
use Rattle.fits_image.specs.declared.kind.Kind.{Kind}
use Rattle.fits_image.specs.declared.kind.Kind.TheVariants.{U8, I8, I16, U16, I32, U32, I64, U64}

-- the offset of the convention for so many bits: half the range, or -128 for signed bytes (5.2.5)
abbrev pub convention : ℕ → ℤ
convention bits =
    if bits == 8 then negsuc 127
    else if bits == 16 then pos 32768
    else if bits == 32 then pos 2147483648
    else pos 9223372036854775808

-- the type of pixels of so many bits, with the convention's offset or without (5.2.1 to 5.2.5)
abbrev pub kind_of : ℕ → Bool → Kind
kind_of bits true = if bits == 8 then I8 else if bits == 16 then U16 else if bits == 32 then U32 else U64
kind_of bits false = if bits == 8 then U8 else if bits == 16 then I16 else if bits == 32 then I32 else I64

-- BSCALE is absent, or denotes 1, as a function
abbrev pub is_unscaled : List (List ℕ) → Bool
is_unscaled cards = is_none (lead_card cards (codes "BSCALE  ")) || lead_says_number cards (codes "BSCALE  ") (pos 1)

-- BZERO denotes this offset, and nothing is scaled, as a function
abbrev pub has_offset : List (List ℕ) → ℤ → Bool
has_offset cards offset = lead_says_number cards (codes "BZERO   ") offset && is_unscaled cards

-- the kind of the image that a shape and cards describe, as a function
unfoldable pub kind_in : Shape → List (List ℕ) → Option Kind
kind_in shape cards = option_map (λ bits. kind_of bits (has_offset cards (convention bits))) (image_bits shape)

-- the kind of the array that they describe, with axes or without
unfoldable pub array_kind : Shape → List (List ℕ) → Option Kind
array_kind shape cards = option_map (λ bits. kind_of bits (has_offset cards (convention bits))) (array_bits shape)

-- nothing is scaled and nothing added: BSCALE is absent or denotes 1, BZERO is absent or denotes 0 (4.4.2.5)
unfoldable pub is_plain : List (List ℕ) → Bool
is_plain cards = is_unscaled cards && (is_none (lead_card cards (codes "BZERO   ")) || lead_says_number cards (codes "BZERO   ") (pos 0))

-- what is added to the number that stands in a pixel: the convention's offset, or 0 (4.4.2.5, 5.2.5)
abbrev pub offset_of : Kind → ℤ
offset_of I8 = negsuc 127
offset_of U16 = pos 32768
offset_of U32 = pos 2147483648
offset_of U64 = pos 9223372036854775808
offset_of kind = pos 0

-- how many bytes a pixel has (5.2.1 to 5.2.4)
abbrev pub width_of : Kind → ℕ
width_of U8 = 1
width_of I8 = 1
width_of I16 = 2
width_of U16 = 2
width_of I32 = 4
width_of U32 = 4
width_of I64 = 8
width_of U64 = 8
