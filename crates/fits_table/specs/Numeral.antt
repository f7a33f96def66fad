-- Numbers without a sign, as the texts of column keywords have them (FITS Standard 4.0, section 7).
use Rattle.std.specs.Prelude.{◌≡◌, ◌≤◌, ℕ, false, List, Option, option_and_then}
use Rattle.fits_value.specs.Characters.{AreSomeDigits}
use Rattle.fits_value.specs.Number.{value_of}
use Rattle.fits_value.specs.Says.{number_in}
use Rattle.fits_rules.specs.Shape.{up_to}

-- digits, at least one, that stand for this number; it has at most 63 bits (own)
pub record IsNumeral (text : List ℕ) (number : ℕ) : Type 0 where
  pub digits : AreSomeDigits text
  pub value : value_of text ≡ number
  pub small : number ≤ 9223372036854775807

-- the number that a text stands for, as a function
unfoldable pub numeral : List ℕ → Option ℕ
numeral text = option_and_then (up_to 9223372036854775807) (number_in false text)
