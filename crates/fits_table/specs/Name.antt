-- TTYPEn: the names of columns (FITS Standard 4.0, sections 7.2.2 and 7.3.2).
use Rattle.std.specs.Prelude.{ℕ, ◌==◌, ◌&&◌, ◌||◌, Bool, false, not, List, [], ◌∷◌, map, Option, None, Some}
use Rattle.std.specs.Char.{is_ascii_alphanumeric, to_ascii_lowercase}
use Rattle.std.specs.List.{list_all, list_any}
use Rattle.std.specs.Str.{bytes_eq}
use Rattle.fits_value.specs.Characters.{is_space}

-- a character that is recommended in a name: a letter, a digit or an underscore
abbrev pub is_recommended : ℕ → Bool
is_recommended byte = is_ascii_alphanumeric byte || (byte == 95)

-- a name has such characters alone
abbrev pub is_plain_name : List ℕ → Bool
is_plain_name name = list_all is_recommended name

-- TTYPEn says a name with a character that isn't recommended
abbrev pub is_odd_name : Option (List ℕ) → Bool
is_odd_name None = false
is_odd_name (Some name) = not (is_plain_name name)

-- a name in small letters: names that differ in case alone are one
abbrev pub lowered : List ℕ → List ℕ
lowered name = map to_ascii_lowercase name

-- both texts are the same name, which is neither empty nor blank (own)
unfoldable pub is_one_name : List ℕ → List ℕ → Bool
is_one_name one other = not (list_all is_space one) && bytes_eq (lowered one) (lowered other)

-- two columns' TTYPEn say one name
abbrev pub are_one : Option (List ℕ) → Option (List ℕ) → Bool
are_one (Some one) (Some other) = is_one_name one other
are_one one other = false

-- W32: a name stands twice among those of the columns
unfoldable pub has_twins : List (Option (List ℕ)) → Bool
has_twins [] = false
has_twins (name ∷ names) = list_any (are_one name) names || has_twins names
