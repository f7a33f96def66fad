-- A number of a name, by which most names are told apart at once (own).
use Rattle.std.specs.Prelude.{ℕ, ◌+◌, ◌*◌, ◌%◌, ◌^◌, List, [], ◌∷◌, Option, None, Some}
use Rattle.fits_table.specs.Name.{lowered}

-- the number with one character more
abbrev pub print_with : ℕ → ℕ → ℕ
print_with print character = ((print * 31) % 2 ^ 64 + character) % 2 ^ 64

-- the number of a text that follows what has one
abbrev pub print_from : ℕ → List ℕ → ℕ
print_from print [] = print
print_from print (character ∷ text) = print_from (print_with print character) text

-- the number of a text
abbrev pub print_of : List ℕ → ℕ
print_of text = print_from 0 text

-- the number of a name in small letters
abbrev pub print_of_title : Option (List ℕ) → ℕ
print_of_title None = 0
print_of_title (Some name) = print_of (lowered name)
