-- The texts of character strings (FITS Standard 4.0, section 4.2.1).
use Rattle.std.specs.Prelude.{codes, ℕ, ◌-◌, ◌&&◌, nat_lt, List, length, take, if◌then◌else◌}
use Rattle.std.specs.List.{list_all, suffix_len}
use Rattle.fits_value.specs.Spelling.{is_space}

-- a text without the spaces at its end
abbrev pub trimmed : List ℕ → List ℕ
trimmed text = take (length text - suffix_len is_space text) text

-- trailing spaces say nothing, but spaces alone are one space, and not the null string (4.2.1.1)
abbrev pub normal_form : List ℕ → List ℕ
normal_form text = if nat_lt 0 (length text) && list_all is_space text then codes " " else trimmed text
