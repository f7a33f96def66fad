-- How values are spelled in a card's value field (FITS Standard 4.0, section 4.2).
use Rattle.std.specs.Prelude.{codes, ◌≡◌, ◌⊎◌, ℕ, ◌==◌, List, [], ◌∷◌, ◌++◌, if◌then◌else◌}
use Rattle.fits_value.specs.Number.{IsInteger, IsReal, IsNumber}
use Rattle.fits_value.specs.declared.reading.ValueKind.{ValueKind}
use Rattle.fits_value.specs.declared.reading.ValueKind.TheVariants.{Undefined, Logical, Integer, Real, Complex, Str}
pub use Rattle.fits_value.specs.Characters.{is_space, is_digit, is_sign, is_exponent_letter, IsSpaces, IsDigits, AreSomeDigits}

-- ( number , number ) with spaces allowed round each (4.2.5, 4.2.6)
pub record IsComplexOf (text real imaginary : List ℕ) : Type 0 where
  pub before_real : List ℕ
  pub after_real : List ℕ
  pub before_imaginary : List ℕ
  pub after_imaginary : List ℕ
  pub spaces_real : IsSpaces before_real × IsSpaces after_real
  pub spaces_imaginary : IsSpaces before_imaginary × IsSpaces after_imaginary
  pub is_real : IsNumber real
  pub is_imaginary : IsNumber imaginary
  pub parts : text ≡ codes "(" ++ before_real ++ real ++ after_real ++ (codes "," ++ before_imaginary) ++ imaginary ++ after_imaginary ++ codes ")"

-- characters with each quote doubled (4.2.1.1)
abbrev pub doubled : List ℕ → List ℕ
doubled [] = []
doubled (c ∷ cs) = if c == 39 then codes "''" ++ doubled cs else c ∷ doubled cs

-- ' characters with each quote doubled ' (4.2.1.1)
abbrev pub IsStringOf : List ℕ → List ℕ → Type 0
IsStringOf text characters = text ≡ codes "'" ++ doubled characters ++ codes "'"

-- the text spells a value of this kind; an undefined value is no text at all (4.1.2.3)
abbrev pub Spells : ValueKind → List ℕ → Type 0
Spells Undefined text = text ≡ []
Spells Logical text = (text ≡ codes "T") ⊎ (text ≡ codes "F")
Spells Integer text = IsInteger text
Spells Real text = IsReal text
Spells Complex text = (real : List ℕ) × (imaginary : List ℕ) × IsComplexOf text real imaginary
Spells Str text = (characters : List ℕ) × IsStringOf text characters
