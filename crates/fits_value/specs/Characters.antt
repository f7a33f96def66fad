-- The characters of spellings (FITS Standard 4.0, section 4.2).
use Rattle.std.specs.Prelude.{Bool, ℕ, ◌<◌, ◌&&◌, ◌||◌, ◌==◌, nat_le, IsTrue, List, length}
use Rattle.std.specs.List.{list_all}

-- a space
abbrev pub is_space : ℕ → Bool
is_space byte = byte == 32

-- a decimal digit
abbrev pub is_digit : ℕ → Bool
is_digit byte = nat_le 48 byte && nat_le byte 57

-- a plus or a minus sign
abbrev pub is_sign : ℕ → Bool
is_sign byte = (byte == 43) || (byte == 45)

-- the letter of an exponent, E or D (4.2.4)
abbrev pub is_exponent_letter : ℕ → Bool
is_exponent_letter byte = (byte == 69) || (byte == 68)

-- spaces, or nothing
abbrev pub IsSpaces : List ℕ → Type 0
IsSpaces text = IsTrue (list_all is_space text)

-- digits, or nothing
abbrev pub IsDigits : List ℕ → Type 0
IsDigits text = IsTrue (list_all is_digit text)

-- digits, at least one
abbrev pub AreSomeDigits : List ℕ → Type 0
AreSomeDigits text = IsDigits text × (0 < length text)
