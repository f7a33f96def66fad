-- Why a text says no value and comment, for whoever wrote it (own).
use Rattle.std.specs.Prelude.{ℕ, ◌==◌, Bool, true, false, not, ◌&&◌, ◌||◌, List, [], ◌∷◌, drop, map, codes, Option, None, Some, if◌then◌else◌}
use Rattle.std.specs.Char.{is_ascii_alphabetic, to_ascii_lowercase}
use Rattle.std.specs.List.{list_any, prefix_len, take_while}
use Rattle.std.specs.Str.{bytes_eq}
use Rattle.fits_card.specs.Card.{is_text}
use Rattle.fits_value.specs.NumberSteps.{after_sign}
use Rattle.fits_value.specs.Scan.{front_value}
use Rattle.fits_value.specs.Spelling.{is_digit, is_space}
use Rattle.fits_value.specs.Text.{trimmed}
use Rattle.fits_value.specs.declared.reading.ValueKind.{ValueKind}
use Rattle.fits_value.specs.declared.reading.ValueKind.TheVariants as kind
use Rattle.fits_value.specs.declared.unreadable.Unreadable.{Unreadable}
use Rattle.fits_value.specs.declared.unreadable.Unreadable.TheVariants.{NoText, OpenString, BareQuote, TextAfter, SmallExponent, LogicalWord, EqualsSign, DoubleQuote, Unquoted, NoValue}

-- the text begins with a byte that passes a test
abbrev pub begins : (ℕ → Bool) → List ℕ → Bool
begins test [] = false
begins test (byte ∷ text) = test byte

-- a text without the spaces at its front
abbrev pub unspaced : List ℕ → List ℕ
unspaced text = drop (prefix_len is_space text) text

-- nothing, or a slash: what follows a value and spaces (4.1.2.3)
abbrev pub is_ending : List ℕ → Bool
is_ending [] = true
is_ending (byte ∷ text) = byte == 47

-- the bytes before the first space
unfoldable pub front_word : List ℕ → List ℕ
front_word text = take_while (λ byte. not (is_space byte)) text

-- a space and a slash come first
abbrev pub begins_comment : List ℕ → Bool
begins_comment [] = false
begins_comment (byte ∷ text) = is_space byte && begins (λ b. b == 47) text

-- the bytes before these
unfoldable pub before_comment : List ℕ → List ℕ
before_comment [] = []
before_comment (byte ∷ text) = if begins_comment (byte ∷ text) then [] else byte ∷ before_comment text

-- what was meant as a string: all before the comment, without spaces at its end
abbrev pub plain_text : List ℕ → List ℕ
plain_text text = trimmed (before_comment text)

-- `true`, `false`, `t` or `f`, in small letters or capitals
unfoldable pub is_logical_word : List ℕ → Bool
is_logical_word word =
    let small = map to_ascii_lowercase word in
    bytes_eq small (codes "true") || bytes_eq small (codes "false") || bytes_eq small (codes "t") || bytes_eq small (codes "f")

-- an exponent by its small letter: e or d, a sign or none, and a digit
abbrev pub begins_small_exponent : List ℕ → Bool
begins_small_exponent [] = false
begins_small_exponent (byte ∷ text) = ((byte == 101) || (byte == 100)) && begins is_digit (after_sign text)

-- a text that no value stands at the front of, or one that goes on in other bytes: why it is none
unfoldable pub word_fault : List ℕ → Unreadable
word_fault body =
    if is_logical_word (front_word body) then LogicalWord
    else if begins (λ b. b == 61) body then EqualsSign
    else if begins (λ b. b == 34) body then DoubleQuote
    else if begins is_ascii_alphabetic body then Unquoted (plain_text body)
    else NoValue (front_word body)

-- the same by what follows the value at its front: text after a space; a hyphen or a colon, as in dates and times
unfoldable pub rest_fault : List ℕ → List ℕ → Unreadable
rest_fault body rest =
    if begins is_space rest then TextAfter
    else if begins (λ b. (b == 45) || (b == 58)) rest then Unquoted (plain_text body)
    else word_fault body

-- and where that is a number
abbrev pub number_fault : List ℕ → List ℕ → Unreadable
number_fault body rest = if begins_small_exponent rest then SmallExponent else rest_fault body rest

-- and where that is a string
abbrev pub string_fault : List ℕ → Unreadable
string_fault rest = if list_any (λ b. b == 39) rest then BareQuote else TextAfter

-- why what follows a value of this kind is no comment
unfoldable pub after_fault : ValueKind → List ℕ → List ℕ → Unreadable
after_fault kind.Str body rest = string_fault rest
after_fault kind.Integer body rest = number_fault body rest
after_fault kind.Real body rest = number_fault body rest
after_fault other body rest = rest_fault body rest

-- why a text that begins with no space is none, by the value at its front
abbrev pub body_fault : List ℕ → Option (ValueKind × ℕ) → Option Unreadable
body_fault body None = Some (if begins (λ b. b == 39) body then OpenString else word_fault body)
body_fault body (Some value) =
    let rest = drop value.1 body in
    if is_ending (unspaced rest) then None else Some (after_fault value.0 body rest)

-- why a text says no value and comment; none where it says them
unfoldable pub unreadable_of : List ℕ → Option Unreadable
unreadable_of text = if is_text text then body_fault (unspaced text) (front_value (unspaced text)) else Some NoText
