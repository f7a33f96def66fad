-- The keywords that the standard gives a meaning: their types, and which of them are mandatory (FITS Standard 4.0, sections 4.4.1 and 4.4.2).
use Rattle.std.specs.Prelude.{ℕ, ◌==◌, Bool, true, false, ◌&&◌, ◌||◌, not, nat_le, is_some, List, [], ◌∷◌, take, drop, codes, Option, None, Some, if◌then◌else◌}
use Rattle.std.specs.List.{list_all, list_any, prefix_len}
use Rattle.std.specs.Str.{bytes_eq}
use Rattle.fits_value.specs.Characters.{is_space, is_digit}
use Rattle.fits_value.specs.Number.{value_of}
use Rattle.fits_value.specs.declared.reading.ValueKind.{ValueKind}
use Rattle.fits_value.specs.declared.reading.ValueKind.TheVariants.{Undefined, Logical, Integer, Real, Str}
use Rattle.fits_rules.specs.Class.{is_primary}
use Rattle.fits_rules.specs.declared.class.Class.{Class}

-- the name is one of these
abbrev pub is_one_of : List (List ℕ) → List ℕ → Bool
is_one_of names name = list_any (bytes_eq name) names

-- keywords of logical values (4.4.1.1, 4.4.2.1, 4.4.2.6, 6)
abbrev pub logical_keywords : List (List ℕ)
logical_keywords = codes "SIMPLE  " ∷ codes "EXTEND  " ∷ codes "GROUPS  " ∷ codes "INHERIT " ∷ []

-- of integers, without NAXISn (4.4.1, 4.4.2.5, 4.4.2.6)
abbrev pub integer_keywords : List (List ℕ)
integer_keywords = codes "BITPIX  " ∷ codes "NAXIS   " ∷ codes "PCOUNT  " ∷ codes "GCOUNT  " ∷ codes "BLANK   " ∷ codes "EXTVER  " ∷ codes "EXTLEVEL" ∷ []

-- of reals (4.4.2.5, 8.3)
abbrev pub real_keywords : List (List ℕ)
real_keywords = codes "BSCALE  " ∷ codes "BZERO   " ∷ codes "DATAMAX " ∷ codes "DATAMIN " ∷ codes "EQUINOX " ∷ []

-- of character strings (4.4.1.2, 4.4.2)
abbrev pub string_keywords : List (List ℕ)
string_keywords =
    codes "XTENSION" ∷ codes "ORIGIN  " ∷ codes "TELESCOP" ∷ codes "INSTRUME" ∷ codes "OBSERVER" ∷ codes "OBJECT  " ∷ codes "AUTHOR  "
    ∷ codes "REFERENC" ∷ codes "BUNIT   " ∷ codes "EXTNAME " ∷ codes "DATE    " ∷ codes "DATE-OBS" ∷ codes "CHECKSUM" ∷ codes "DATASUM " ∷ []

-- digits, of which the first isn't 0
abbrev pub is_count : List ℕ → Bool
is_count [] = false
is_count (first ∷ digits) = not (first == 48)

-- the n of NAXISn: its digits follow NAXIS, without zeros before them, and spaces follow to the eighth byte (4.1.2.1, 4.4.1.1)
unfoldable pub axis_number : List ℕ → Option ℕ
axis_number name =
    let rest = drop 5 name in
    let count = prefix_len is_digit rest in
    if bytes_eq (take 5 name) (codes "NAXIS") && is_count (take count rest) && list_all is_space (drop count rest)
    then Some (value_of (take count rest)) else None

-- the type that the standard gives a keyword's value (4.4.1, 4.4.2)
unfoldable pub keyword_type : List ℕ → Option ValueKind
keyword_type name =
    if is_one_of logical_keywords name then Some Logical
    else (if is_one_of integer_keywords name || is_some (axis_number name) then Some Integer
    else (if is_one_of real_keywords name then Some Real
    else (if is_one_of string_keywords name then Some Str else None)))

-- a value of the second type may stand where the first one is wanted: an integer is a real, and every value may be undefined (4.1.2.3, 4.2.4)
abbrev pub suits : ValueKind → ValueKind → Bool
suits type Undefined = true
suits Logical Logical = true
suits Integer Integer = true
suits Real Real = true
suits Real Integer = true
suits Str Str = true
suits type kind = false

-- names of mandatory keywords, without NAXISn (4.4.1.1, 4.4.1.2)
abbrev pub mandatory_names : Bool → List (List ℕ)
mandatory_names primary =
    if primary then codes "SIMPLE  " ∷ codes "BITPIX  " ∷ codes "NAXIS   " ∷ []
    else codes "XTENSION" ∷ codes "BITPIX  " ∷ codes "NAXIS   " ∷ codes "PCOUNT  " ∷ codes "GCOUNT  " ∷ []

-- the number is there, and at most so large
abbrev pub is_up_to : ℕ → Option ℕ → Bool
is_up_to limit None = false
is_up_to limit (Some number) = nat_le number limit

-- the name is mandatory in an HDU of this class with so many axes (4.4.1.1, 4.4.1.2)
unfoldable pub is_mandatory : Class → ℕ → List ℕ → Bool
is_mandatory class axes name = is_one_of (mandatory_names (is_primary class)) name || is_up_to axes (axis_number name)

-- the type of the mandatory keyword at a place: SIMPLE or XTENSION at the first, an integer at the others (4.4.1.1, 4.4.1.2)
abbrev pub mandatory_type : Class → ℕ → ValueKind
mandatory_type class place = if place == 1 then (if is_primary class then Logical else Str) else Integer

-- the names of commentary (4.4.2.4)
abbrev pub commentary_names : List (List ℕ)
commentary_names = codes "COMMENT " ∷ codes "HISTORY " ∷ codes "        " ∷ []

-- the keywords of dates (4.4.2.1, 4.4.2.2)
abbrev pub date_keywords : List (List ℕ)
date_keywords = codes "DATE    " ∷ codes "DATE-OBS" ∷ []

-- the keywords that are deprecated (4.4.2.1, 8.3)
abbrev pub deprecated_keywords : List (List ℕ)
deprecated_keywords = codes "EPOCH   " ∷ codes "BLOCKED " ∷ []

-- the counts of groups (4.4.1.2)
abbrev pub count_keywords : List (List ℕ)
count_keywords = codes "PCOUNT  " ∷ codes "GCOUNT  " ∷ []
