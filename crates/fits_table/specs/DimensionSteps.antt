-- How many elements an array has, step by step and up to a limit (own).
use Rattle.std.specs.Prelude.{ℕ, ◌*◌, ◌-◌, ◌^◌, min, List, Option, None, Some}
use Rattle.std.specs.Option.{option_map}
use Rattle.fits_rules.specs.Size.{product}
use Rattle.fits_table.specs.Dimensions.{dimensions_of}
use Rattle.fits_table.specs.Numeral.{numeral}

-- a number, or the largest of 128 bits, which no count reaches
abbrev pub limited : ℕ → ℕ
limited number = min number (2 ^ 128 - 1)

-- the elements of the axes before, times the size that a text says
abbrev pub times : Option ℕ → List ℕ → Option ℕ
times None text = None
times (Some volume) text = option_map (λ size. limited (volume * size)) (numeral text)

-- the elements of all axes
unfoldable pub limited_volume : List ℕ → Option ℕ
limited_volume text = option_map (λ sizes. limited (product sizes)) (dimensions_of text)
