-- Values, and the values that fields and cards say (FITS Standard 4.0, section 4.2).
use Rattle.std.specs.Prelude.{codes, ◌≡◌, ℕ, List, [], Option, if◌then◌else◌}
use Rattle.fits_card.specs.Card.{IsText}
use Rattle.fits_value.specs.Spelling.{IsComplexOf, IsStringOf}
use Rattle.fits_value.specs.Field.{FieldReadsAs, field}
use Rattle.fits_value.specs.Text.{normal_form}
use Rattle.fits_value.specs.declared.reading.ValueKind.{ValueKind}
use Rattle.fits_value.specs.declared.reading.ValueKind.TheVariants as kind
use Rattle.fits_value.specs.declared.value.Value.{Value}
use Rattle.fits_value.specs.declared.value.Value.TheVariants.{Undefined, Logical, Integer, Real, Complex, Str}

-- the type of a value
abbrev pub kind_of : Value → ValueKind
kind_of Undefined = kind.Undefined
kind_of (Logical flag) = kind.Logical
kind_of (Integer text) = kind.Integer
kind_of (Real text) = kind.Real
kind_of (Complex real imaginary) = kind.Complex
kind_of (Str text) = kind.Str

-- the value that is spelled so: numbers as they are written, strings decoded and in normal form (4.2.1 to 4.2.6)
abbrev pub IsValueOf : Value → List ℕ → Type 0
IsValueOf Undefined spelling = spelling ≡ []
IsValueOf (Logical flag) spelling = spelling ≡ (if flag then codes "T" else codes "F")
IsValueOf (Integer text) spelling = spelling ≡ text
IsValueOf (Real text) spelling = spelling ≡ text
IsValueOf (Complex real imaginary) spelling = IsComplexOf spelling real imaginary
IsValueOf (Str text) spelling = (characters : List ℕ) × IsStringOf spelling characters × (text ≡ normal_form characters)

-- a text, whatever its length, that says this value and comment
pub record FieldSays (text : List ℕ) (value : Value) (comment : Option (List ℕ)) : Type 0 where
  pub spelling : List ℕ
  pub reads : FieldReadsAs text (kind_of value) spelling comment
  pub is_value : IsValueOf value spelling

-- a card of text whose bytes 11 to 80 say this value and comment (4.1.2.3)
pub record CardSays (card : List ℕ) (value : Value) (comment : Option (List ℕ)) : Type 0 where
  pub is_text : IsText card
  pub says : FieldSays (field card) value comment
