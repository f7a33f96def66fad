-- TDIMn: the arrays in a column of a binary table (FITS Standard 4.0, section 7.3.2).
use Rattle.std.specs.Prelude.{◌≡◌, ℕ, ◌-◌, ◌==◌, ◌&&◌, nat_le, Bool, List, [], ◌∷◌, ◌++◌, codes, length, slice_index, Option, None, Some, option_and_then, if◌then◌else◌}
use Rattle.std.specs.List.{slice_split}
use Rattle.std.specs.Option.{option_map}
use Rattle.fits_value.specs.Says.{inner}
use Rattle.fits_table.specs.Numeral.{IsNumeral, numeral}

-- a comma
abbrev pub is_comma : ℕ → Bool
is_comma byte = byte == 44

-- each text stands for the number at its place
abbrev pub AreNumerals : List (List ℕ) → List ℕ → Type 0
AreNumerals [] [] = Unit {0}
AreNumerals (text ∷ texts) (number ∷ numbers) = IsNumeral text number × AreNumerals texts numbers
AreNumerals texts numbers = ⊥

-- (l,m,n..): the sizes of the axes with commas between them, in brackets
pub record AreDimensions (text : List ℕ) (sizes : List ℕ) : Type 0 where
  pub inside : List ℕ
  pub are : AreNumerals (slice_split is_comma inside) sizes
  pub parts : text ≡ codes "(" ++ inside ++ codes ")"

-- the numbers of texts, where each is one, as a function
abbrev pub numerals : List (List ℕ) → Option (List ℕ)
numerals [] = Some []
numerals (text ∷ texts) = option_and_then (λ number. option_map (λ numbers. number ∷ numbers) (numerals texts)) (numeral text)

-- what stands in brackets, as a function
unfoldable pub bracketed : List ℕ → Option (List ℕ)
bracketed text =
    if nat_le 2 (length text) && (slice_index text 0 == 40) && (slice_index text (length text - 1) == 41) then Some (inner text) else None

-- the sizes of the axes, as a function
unfoldable pub dimensions_of : List ℕ → Option (List ℕ)
dimensions_of text = option_and_then (λ inside. numerals (slice_split is_comma inside)) (bracketed text)
