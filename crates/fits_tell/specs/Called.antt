-- What `list -l` says of what an HDU is called (own; FITS Standard 4.0, sections 4.2.1.1, 4.4.1.2 and 4.4.2.6).
use Rattle.std.specs.Prelude.{◌≡◌, ℕ, Bool, true, false, List, [], ◌++◌, codes, Option, None, Some, option_and_then, if◌then◌else◌}
use Rattle.std.specs.Fmt.{signed_decimal}
use Rattle.fits_card.specs.Header.{card_at}
use Rattle.fits_value.specs.Spelling.{doubled}
use Rattle.fits_rules.specs.Class.{is_primary}
use Rattle.fits_rules.specs.Lead.{lead_card}
use Rattle.fits_rules.specs.Reads.{in_64_bits, integer_said, string_said}
use Rattle.fits_rules.specs.declared.integers.IntegerSaid.{IntegerSaid}
use Rattle.fits_rules.specs.declared.integers.IntegerSaid.TheVariants.{Number}
use Rattle.fits_passing.specs.ExtensionName.{names_something}
use Rattle.fits_passing.specs.Hdu.{HduParts}
use Rattle.fits_passing.specs.Reading.{is_outline}
use Rattle.fits_tell.specs.declared.called_outline.CalledOutline.{CalledOutline}

-- a string in quotes, with each quote in it doubled (4.2.1.1)
abbrev pub quoted : List ℕ → List ℕ
quoted text = codes "'" ++ (doubled text ++ codes "'")

-- ` type 'TYPE'`, where there is one
abbrev pub type_words : Option (List ℕ) → List ℕ
type_words None = []
type_words (Some text) = codes " type " ++ quoted text

-- ` name 'NAME'`, where it names something
abbrev pub name_words : Option (List ℕ) → List ℕ
name_words None = []
name_words (Some text) = if names_something text then codes " name " ++ quoted text else []

-- ` ver VERSION`, where it is an integer of 64 bits
abbrev pub number_words : IntegerSaid → List ℕ
number_words (Number number) = codes " ver " ++ signed_decimal number
number_words said = []

-- the same of the lead of EXTVER, if there is one
abbrev pub version_words : Option (List ℕ) → List ℕ
version_words None = []
version_words (Some card) = number_words (in_64_bits (integer_said card))

-- an extension's type, name and version, each read as where two are told apart (W25); of the primary HDU the name alone
unfoldable pub called_words : Bool → List (List ℕ) → List ℕ
called_words true cards = name_words (option_and_then string_said (lead_card cards (codes "EXTNAME ")))
called_words false cards =
    type_words (option_and_then string_said (card_at cards 1))
    ++ (name_words (option_and_then string_said (lead_card cards (codes "EXTNAME "))) ++ version_words (lead_card cards (codes "EXTVER  ")))

-- this is an HDU's outline, and these are the words of what it is called
pub record IsCalled (it : CalledOutline) (hdu : HduParts) : Type 0 where
  pub outlined : is_outline it.outline hdu
  pub words_are : it.words.items ≡ called_words (is_primary it.outline.shape.class) hdu.header.cards
