-- How the bytes of a data unit are read: as integer pixels, or as bytes alone (FITS Standard 4.0, sections 3.3.2, 4.4.2.5 and 5.2).
use Rattle.std.specs.Prelude.{ℕ, ◌/◌, ℤ, List, Option, None, Some}
use Rattle.fits_codes.specs.HeaderCodes.{blank_said}
use Rattle.fits_pixels.specs.declared.layout.Layout.{Layout}
use Rattle.fits_plane.specs.Rectangle.{product}
use Rattle.fits_rules.specs.Image.{image_bits}
use Rattle.fits_rules.specs.Size.{data_size}
use Rattle.fits_rules.specs.declared.array_shape.Shape.{Shape}
use Rattle.fits_rules.specs.declared.class.Class.{Class}
use Rattle.fits_rules.specs.declared.class.Class.TheVariants.{Table}
use Rattle.fits_rules.specs.declared.integers.IntegerSaid.{IntegerSaid}
use Rattle.fits_rules.specs.declared.integers.IntegerSaid.TheVariants.{Number}

-- the byte that fills the last block of data: a space in an ASCII table, else zero (3.3.2, 7.2)
abbrev pub fill_byte : Class → ℕ
fill_byte Table = 32
fill_byte class = 0

-- the stored number of undefined pixels, where BLANK says an integer of 64 bits (4.4.2.5)
abbrev pub blank_number : Option IntegerSaid → Option ℤ
blank_number (Some (Number number)) = Some number
blank_number said = None

-- the layout of bytes alone, of which no pixels are read
abbrev pub layout_of_bytes : Shape → Layout
layout_of_bytes shape = record { width = 0; pixels = 0; used = data_size shape; fill = fill_byte shape.class; blank = None }

-- that of pixels of so many bits, or of bytes alone
abbrev pub layout_by : Option ℕ → Shape → List (List ℕ) → Layout
layout_by (Some bits) shape cards =
    record (layout_of_bytes shape) { width = bits / 8; pixels = product shape.axes; blank = blank_number (blank_said cards) }
layout_by None shape cards = layout_of_bytes shape

-- how the data unit is read of an HDU of this shape and with these cards
unfoldable pub layout_of : Shape → List (List ℕ) → Layout
layout_of shape cards = layout_by (image_bits shape) shape cards
