-- What an extension is called: its type, its name and its version (FITS Standard 4.0, sections 4.4.1.2 and 4.4.2.6).
use Rattle.std.specs.Prelude.{ℕ, ◌&&◌, Bool, true, false, not, ℤ, pos, List, [], ◌∷◌, codes, Option, None, Some, option_and_then, if◌then◌else◌}
use Rattle.std.specs.Ordering.{int_eq}
use Rattle.std.specs.Str.{bytes_eq}
use Rattle.fits_card.specs.Header.{card_at}
use Rattle.fits_codes.specs.declared.code.Code.{Code}
use Rattle.fits_codes.specs.declared.code.Code.TheVariants.{DuplicateExtension}
use Rattle.fits_rules.specs.Lead.{lead_card}
use Rattle.fits_rules.specs.Reads.{in_64_bits, integer_said, string_said}
use Rattle.fits_rules.specs.declared.integers.IntegerSaid.{IntegerSaid}
use Rattle.fits_rules.specs.declared.integers.IntegerSaid.TheVariants.{Number}
use Rattle.fits_passing.specs.declared.called.ExtensionName.{ExtensionName}

-- a text that names something: neither the null string nor a space alone (4.2.1.1)
abbrev pub names_something : List ℕ → Bool
names_something text = not (bytes_eq text []) && not (bytes_eq text (codes " "))

-- the version is an integer of 64 bits; what isn't one is version 1 (4.4.2.6)
abbrev pub version_of : IntegerSaid → ℤ
version_of (Number number) = number
version_of said = pos 1

-- the version that EXTVER's lead says alone, if there is one
abbrev pub version_said : Option (List ℕ) → ℤ
version_said None = pos 1
version_said (Some card) = version_of (in_64_bits (integer_said card))

-- what a type, a name and a version call an extension, where the name names something
abbrev pub called : Option (List ℕ) → Option (List ℕ) → ℤ → Option ExtensionName
called (Some xtension) (Some extname) version =
    if names_something extname then Some (record { xtension = xtension; extname = extname; extver = version }) else None
called xtension extname version = None

-- what an HDU with these cards is called: an extension by place 1 and by the leads of EXTNAME and EXTVER, each alone; the primary
-- HDU isn't called anything
unfoldable pub extension_name : Bool → List (List ℕ) → Option ExtensionName
extension_name true cards = None
extension_name false cards =
    called (option_and_then string_said (card_at cards 1)) (option_and_then string_said (lead_card cards (codes "EXTNAME ")))
    (version_said (lead_card cards (codes "EXTVER  ")))

-- two names are the same: of one type, one name and one version (4.4.2.6)
abbrev pub is_same_name : ExtensionName → ExtensionName → Bool
is_same_name name other =
    int_eq name.extver other.extver && (bytes_eq name.xtension other.xtension && bytes_eq name.extname other.extname)

-- W25: another extension is called the same, or none is
abbrev pub name_codes : Bool → List Code
name_codes true = DuplicateExtension ∷ []
name_codes false = []
