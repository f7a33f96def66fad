-- Values that are the same, however they are spelled (own).
use Rattle.std.specs.Prelude.{ℕ, ◌&&◌, Bool, true, false, not, List, if◌then◌else◌}
use Rattle.std.specs.Str.{bytes_eq}
use Rattle.fits_value.specs.declared.value.Value.{Value}
use Rattle.fits_value.specs.declared.value.Value.TheVariants.{Undefined, Logical, Integer, Real, Complex, Str}
use Rattle.fits_extended.specs.Numbers.{denote_same}

-- a value is undefined (4.1.2.3)
abbrev pub is_undefined : Value → Bool
is_undefined Undefined = true
is_undefined value = false

-- it is this logical (4.2.2)
abbrev pub is_flag : Bool → Value → Bool
is_flag flag (Logical other) = if flag then other else not other
is_flag flag value = false

-- it is this number
abbrev pub is_this_number : List ℕ → Value → Bool
is_this_number text (Integer other) = denote_same text other
is_this_number text (Real other) = denote_same text other
is_this_number text value = false

-- it is this complex number (4.2.5)
abbrev pub is_pair : List ℕ → List ℕ → Value → Bool
is_pair real imaginary (Complex a b) = denote_same real a && denote_same imaginary b
is_pair real imaginary value = false

-- it is this string (4.2.1)
abbrev pub is_text : List ℕ → Value → Bool
is_text text (Str other) = bytes_eq other text
is_text text value = false

-- two values are of one type, or both numbers, and the same: strings by their characters, numbers by what they denote
abbrev pub is_same_value : Value → Value → Bool
is_same_value Undefined other = is_undefined other
is_same_value (Logical flag) other = is_flag flag other
is_same_value (Integer text) other = is_this_number text other
is_same_value (Real text) other = is_this_number text other
is_same_value (Complex real imaginary) other = is_pair real imaginary other
is_same_value (Str text) other = is_text text other
