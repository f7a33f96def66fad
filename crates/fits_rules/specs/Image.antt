-- Arrays of integers, by the shape (FITS Standard 4.0, sections 3.3.2, 4.4.1.1 and 7.1).
use Rattle.std.specs.Prelude.{ℕ, ◌==◌, ◌&&◌, Bool, true, false, nat_lt, ℤ, pos, negsuc, length, Option, None, Some, if◌then◌else◌}
use Rattle.fits_rules.specs.declared.class.Class.{Class}
use Rattle.fits_rules.specs.declared.class.Class.TheVariants.{Primary, Image}
use Rattle.fits_rules.specs.declared.array_shape.Shape.{Shape}

-- the primary array, or an image extension with PCOUNT 0 and GCOUNT 1 (3.3.2, 7.1)
abbrev pub is_array : Class → ℕ → ℕ → Bool
is_array Primary pcount gcount = true
is_array Image pcount gcount = (pcount == 0) && (gcount == 1)
is_array class pcount gcount = false

-- how many bits a value of integers has: None for reals (4.4.1.1)
abbrev pub integer_bits : ℤ → Option ℕ
integer_bits (pos bits) = Some bits
integer_bits (negsuc number) = None

-- how many bits a value has in an array of integers, with axes or without; None where the shape is no such array
unfoldable pub array_bits : Shape → Option ℕ
array_bits shape = if is_array shape.class shape.pcount shape.gcount then integer_bits shape.bitpix else None

-- those of an array that has an axis
unfoldable pub image_bits : Shape → Option ℕ
image_bits shape = if nat_lt 0 (length shape.axes) then array_bits shape else None
