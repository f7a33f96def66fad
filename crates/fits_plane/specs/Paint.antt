-- What the pixels of a rectangle are given: values, each a stored number and the offset (FITS Standard 4.0, 4.4.2.5; own).
use Rattle.std.specs.Prelude.{◌≤◌, ◌==◌, ◌-ℤ◌, ℕ, ℤ, pos, Bool, true, length, slice_index_or}
use Rattle.fits_pixels.specs.Pixels.{can_store, can_store_all}
use Rattle.fits_plane.specs.declared.lent_paint.LentPaint.{LentPaint}
use Rattle.fits_plane.specs.declared.lent_paint.LentPaint.TheVariants.{Fill, Write}

-- the number that the pixel of a rank stores: its value less the offset
abbrev pub painted_number : LentPaint → ℤ → ℕ → ℤ
painted_number (Fill value) offset rank = value -ℤ offset
painted_number (Write values) offset rank = slice_index_or values rank (pos 0) -ℤ offset

-- there is a value for each of the first so many pixels
abbrev pub HasValues : LentPaint → ℕ → Type 0
HasValues (Fill value) count = Unit {0}
HasValues (Write values) count = count ≤ length values

-- is there a value for each of so many pixels, and no more?
abbrev pub has_count : LentPaint → ℕ → Bool
has_count (Fill value) count = true
has_count (Write values) count = length values == count

-- can pixels of so many bytes store each of the values less the offset?
abbrev pub can_store_paint : ℕ → ℤ → LentPaint → Bool
can_store_paint width offset (Fill value) = can_store width (value -ℤ offset)
can_store_paint width offset (Write values) = can_store_all width offset values
