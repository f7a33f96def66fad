-- Which HDU is asked for: by its number, or by the name of an extension (own; FITS Standard 4.0, sections 4.4.1.2 and 4.4.2.6).
use Rattle.std.specs.Prelude.{◌≡◌, ℕ, ◌+◌, ◌&&◌, ◌==◌, Bool, true, false, pos, List, [], ◌∷◌, codes, drop, map, Option, None, Some, option_and_then, if◌then◌else◌}
use Rattle.std.specs.List.{position}
use Rattle.std.specs.Option.{option_map_or}
use Rattle.std.specs.Str.{bytes_eq}
use Rattle.fits_value.specs.Says.{long_says, says_number}
use Rattle.fits_value.specs.declared.value.Value.{Value}
use Rattle.fits_value.specs.declared.value.Value.TheVariants.{Integer, Real, Str}
use Rattle.fits_rules.specs.Lead.{lead_place}
use Rattle.fits_script.specs.Words.{number_of_word}
use Rattle.fits_tell.specs.declared.asked_extension.AskedExtension.{AskedExtension}
use Rattle.fits_tell.specs.declared.asked_hdu.AskedHdu.{AskedHdu}
use Rattle.fits_tell.specs.declared.asked_hdu.AskedHdu.TheVariants.{Number, Called}

-- what stands before the first comma, or all where there is none
unfoldable pub before_comma : List ℕ → List ℕ
before_comma [] = []
before_comma (byte ∷ bytes) = if byte == 44 then [] else byte ∷ before_comma bytes

-- what stands after it, or nothing
unfoldable pub after_comma : List ℕ → List ℕ
after_comma [] = []
after_comma (byte ∷ bytes) = if byte == 44 then bytes else after_comma bytes

-- the NAME of `NAME` or `NAME,VER`: all of it where no version is asked for
abbrev pub name_asked : List ℕ → Option ℕ → List ℕ
name_asked text None = text
name_asked text (Some version) = before_comma text

-- `NAME` or `NAME,VER` asks for this extension
abbrev pub AsksFor : List ℕ → AskedExtension → Type 0
AsksFor text it = (it.version ≡ number_of_word (after_comma text)) × (it.name.items ≡ name_asked text it.version)

-- what a keyword says: its lead, with the CONTINUE cards of its string (4.1.2.3, 4.2.1.2)
abbrev pub lead_says : List (List ℕ) → List ℕ → Option (Value × Option (List ℕ))
lead_says cards name = option_and_then (long_says cards) (lead_place cards name)

-- a value is the string of this text (4.2.1)
abbrev pub is_string : List ℕ → Value → Bool
is_string text (Str other) = bytes_eq other text
is_string text value = false

-- the same of what EXTNAME says, if it says something
abbrev pub is_name_said : List ℕ → Option (Value × Option (List ℕ)) → Bool
is_name_said name None = false
is_name_said name (Some said) = is_string name said.0

-- a value that is the version of an extension is this: it denotes it, or is no number and it is 1 (4.4.2.6)
abbrev pub is_version : ℕ → Value → Bool
is_version version (Integer text) = says_number text (pos version)
is_version version (Real text) = says_number text (pos version)
is_version version value = version == 1

-- the same of what EXTVER says, if it says something
abbrev pub is_version_said : ℕ → Option (Value × Option (List ℕ)) → Bool
is_version_said version None = version == 1
is_version_said version (Some said) = is_version version said.0

-- the same, where a version is asked for
abbrev pub is_version_asked : Option ℕ → List (List ℕ) → Bool
is_version_asked None cards = true
is_version_asked (Some version) cards = is_version_said version (lead_says cards (codes "EXTVER  "))

-- an extension with these cards is the one that is asked for, as extended lines of scripts have it
unfoldable pub is_asked_extension : AskedExtension → List (List ℕ) → Bool
is_asked_extension asked cards =
    is_name_said asked.name.items (lead_says cards (codes "EXTNAME ")) && is_version_asked asked.version cards

-- the number of the first such extension, or 0, which is that of no HDU
unfoldable pub extension_number : List (List (List ℕ)) → AskedExtension → ℕ
extension_number headers asked = option_map_or (λ index. index + 2) (position (is_asked_extension asked) (drop 1 headers)) 0

-- the number of the HDU that is asked for, in a file of these headers
abbrev pub number_asked : List (List (List ℕ)) → AskedHdu → ℕ
number_asked headers (Number h) = h
number_asked headers (Called asked) = extension_number headers asked

-- those of all that are asked for
abbrev pub numbers_asked : List (List (List ℕ)) → List AskedHdu → List ℕ
numbers_asked headers asked = map (number_asked headers) asked
