-- Why a line says no command, for whoever wrote it (own). Sizes are the line's, in bytes.
use Rattle.std.specs.Prelude.{ℕ, ◌+◌, ◌-◌, ◌==◌, min, Bool, List, [], ◌∷◌, length, drop, map, codes, unwrap_or, if◌then◌else◌}
use Rattle.std.specs.Char.{to_ascii_lowercase}
use Rattle.std.specs.List.{list_any}
use Rattle.std.specs.Option.{is_some}
use Rattle.std.specs.Str.{bytes_eq}
use Rattle.fits_value.specs.Spelling.{is_space}
use Rattle.fits_value.specs.Unreadable.{unreadable_of}
use Rattle.fits_value.specs.declared.unreadable.Unreadable.TheVariants.{NoText}
use Rattle.fits_script.specs.Words.{first_word, value_of_word, verb_word}
use Rattle.fits_script.specs.declared.misfit.Misfit.{Misfit}
use Rattle.fits_script.specs.declared.misfit.Misfit.TheVariants.{CarriageReturn, SpaceTooMany, CapitalVerb, NoVerb, WordMissing, WordTooMany, NotValue, NotPixelValue}
use Rattle.fits_script.specs.declared.verb.TheConstants.{VERBS}

-- a space too many, where so many bytes are left of a line of this size: the byte is the next one, or the last of all
abbrev pub extra_space : ℕ → ℕ → Misfit
extra_space size left = SpaceTooMany (min size (1 + (size - left)))

-- why the first word of a text isn't what is wanted: the line ends, a space comes first, or it is another word
abbrev pub word_misfit : ℕ → List ℕ → Misfit → Misfit
word_misfit size [] another = WordMissing
word_misfit size (byte ∷ text) another = if is_space byte then extra_space size (length (byte ∷ text)) else another

-- the space or the word that follows where the line would end
abbrev pub more_misfit : ℕ → List ℕ → Misfit
more_misfit size text = if length (first_word text) == 0 then extra_space size (length text) else WordTooMany (first_word text)

-- why a text that says no value and comment says none
abbrev pub field_misfit : List ℕ → Misfit
field_misfit text = NotValue (unwrap_or (unreadable_of text) NoText)

-- why a word that begins where so many bytes are left is no value of a pixel
abbrev pub no_value : ℕ → ℕ → List ℕ → Misfit
no_value size left word = if length word == 0 then extra_space size left else NotPixelValue word

-- why words aren't all such values, of which the first begins where so many bytes are left
unfoldable pub values_misfit : ℕ → ℕ → List (List ℕ) → Misfit
values_misfit size left [] = WordMissing
values_misfit size left (word ∷ words) =
    if is_some (value_of_word word) then values_misfit size (left - (length word + 1)) words else no_value size left word

-- a verb, but not in lower case
unfoldable pub is_capital_verb : List ℕ → Bool
is_capital_verb word = list_any (λ verb. bytes_eq (map to_ascii_lowercase word) (verb_word verb)) VERBS

-- why a line whose first word is no verb is none: a space comes first, it isn't in lower case, or it is another word
unfoldable pub no_verb : List ℕ → Misfit
no_verb line =
    if length (first_word line) == 0 then SpaceTooMany 1
    else if is_capital_verb (first_word line) then CapitalVerb (first_word line)
    else NoVerb (first_word line)

-- the last byte of a line is a carriage return
abbrev pub ends_in_return : List ℕ → Bool
ends_in_return line = bytes_eq (drop (length line - 1) line) (codes "\r")

-- why a line says no command: a carriage return at its end, or this
abbrev pub unless_returned : List ℕ → Misfit → Misfit
unless_returned line misfit = if ends_in_return line then CarriageReturn else misfit
