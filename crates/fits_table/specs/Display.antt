-- TDISPn: how the values of a column are displayed (FITS Standard 4.0, sections 7.2.2 and 7.3.4, tables 16 and 20).
use Rattle.std.specs.Prelude.{◌≡◌, ℕ, ◌==◌, ◌&&◌, ◌||◌, Bool, true, false, IsTrue, is_some, List, [], ◌∷◌, ◌++◌, length, take, drop, codes}
use Rattle.std.specs.List.{take_while}
use Rattle.std.specs.Str.{bytes_eq}
use Rattle.fits_value.specs.Characters.{is_digit}
use Rattle.fits_value.specs.NumberSteps.{after_digits}
use Rattle.fits_table.specs.Numeral.{numeral}
use Rattle.fits_table.specs.declared.display.Display.{Display}
use Rattle.fits_table.specs.declared.display.Display.TheVariants.{Text, Logical, Whole, Binary, Octal, Hexadecimal, Fixed, Exponential, Engineering, Scientific, General, Double}

-- the letters of a way of display (tables 16 and 20)
abbrev pub display_letters : Display → List ℕ
display_letters Text = codes "A"
display_letters Logical = codes "L"
display_letters Whole = codes "I"
display_letters Binary = codes "B"
display_letters Octal = codes "O"
display_letters Hexadecimal = codes "Z"
display_letters Fixed = codes "F"
display_letters Exponential = codes "E"
display_letters Engineering = codes "EN"
display_letters Scientific = codes "ES"
display_letters General = codes "G"
display_letters Double = codes "D"

-- a number (own)
abbrev pub is_numeral : List ℕ → Bool
is_numeral text = is_some (numeral text)

-- nothing
abbrev pub is_nothing : List ℕ → Bool
is_nothing [] = true
is_nothing (byte ∷ text) = false

-- .m or .d: a point and a number
abbrev pub is_point : List ℕ → Bool
is_point [] = false
is_point (byte ∷ digits) = (byte == 46) && is_numeral digits

-- Ee, or nothing: the letter and a number
abbrev pub is_exponent : List ℕ → Bool
is_exponent [] = true
is_exponent (byte ∷ digits) = (byte == 69) && is_numeral digits

-- .dEe or .d
abbrev pub is_point_exponent : List ℕ → Bool
is_point_exponent [] = false
is_point_exponent (byte ∷ text) = (byte == 46) && (is_numeral (take_while is_digit text) && is_exponent (after_digits text))

-- what may follow the width: nothing after A and L; .m or nothing after I, B, O and Z; .d after F, EN and ES; .dEe or .d after E, G and D
abbrev pub may_follow : Display → List ℕ → Bool
may_follow Text rest = is_nothing rest
may_follow Logical rest = is_nothing rest
may_follow Whole rest = is_nothing rest || is_point rest
may_follow Binary rest = is_nothing rest || is_point rest
may_follow Octal rest = is_nothing rest || is_point rest
may_follow Hexadecimal rest = is_nothing rest || is_point rest
may_follow Fixed rest = is_point rest
may_follow Exponential rest = is_point_exponent rest
may_follow Engineering rest = is_point rest
may_follow Scientific rest = is_point rest
may_follow General rest = is_point_exponent rest
may_follow Double rest = is_point_exponent rest

-- the letters, the width w, and what may follow it
pub record IsDisplay (text : List ℕ) (display : Display) : Type 0 where
  pub width : List ℕ
  pub rest : List ℕ
  pub is_width : IsTrue (is_numeral width)
  pub follows : IsTrue (may_follow display rest)
  pub parts : text ≡ display_letters display ++ width ++ rest

-- a width, and what may follow it, as a function
abbrev pub has_width : Display → List ℕ → Bool
has_width display text = is_numeral (take_while is_digit text) && may_follow display (after_digits text)

-- the same as a function
unfoldable pub is_display : List ℕ → Display → Bool
is_display text display =
    let letters = display_letters display in
    bytes_eq (take (length letters) text) letters && has_width display (drop (length letters) text)
