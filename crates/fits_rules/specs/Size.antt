-- How many bytes a data unit has, as whole numbers without limit (FITS Standard 4.0, sections 4.4.1.1, 4.4.1.2 and 6).
use Rattle.std.specs.Prelude.{ℕ, ◌+◌, ◌*◌, ◌/◌, unsigned_abs, List, [], ◌∷◌, drop}
use Rattle.fits_card.specs.Header.{to_block_end}
use Rattle.fits_rules.specs.declared.class.Class.{Class}
use Rattle.fits_rules.specs.declared.class.Class.TheVariants.{Primary, Groups}
use Rattle.fits_rules.specs.declared.array_shape.Shape.{Shape}

-- the product of numbers
abbrev pub product : List ℕ → ℕ
product [] = 1
product (number ∷ numbers) = number * product numbers

-- how many values an array with these axes has: none without axes
abbrev pub array_values : List ℕ → ℕ
array_values [] = 0
array_values (axis ∷ axes) = product (axis ∷ axes)

-- how many bytes a value has
abbrev pub value_bytes : Shape → ℕ
value_bytes shape = unsigned_abs shape.bitpix / 8

-- how many values a data unit of this class has: random groups leave NAXIS1 out (6), and an array without groups has no counts
abbrev pub values_in : Class → Shape → ℕ
values_in Primary shape = array_values shape.axes
values_in Groups shape = shape.gcount * (shape.pcount + array_values (drop 1 shape.axes))
values_in class shape = shape.gcount * (shape.pcount + array_values shape.axes)

-- how many bytes the data have
unfoldable pub data_size : Shape → ℕ
data_size shape = value_bytes shape * values_in shape.class shape

-- how many with the data fill, in whole blocks (3.1)
unfoldable pub data_length : Shape → ℕ
data_length shape = data_size shape + to_block_end (data_size shape)
