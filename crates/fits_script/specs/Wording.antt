-- How it is told what is wrong with a line of a script (own).
use Rattle.std.specs.Prelude.{ℕ, ◌==◌, Bool, true, false, not, ◌&&◌, nat_lt, List, [], ◌∷◌, ◌++◌, length, take, codes, if◌then◌else◌}
use Rattle.std.specs.Fmt.{decimal}
use Rattle.std.specs.List.{flat_map}
use Rattle.fits_card.specs.Card.{is_text_byte}
use Rattle.fits_value.specs.declared.unreadable.Unreadable.{Unreadable}
use Rattle.fits_value.specs.declared.unreadable.Unreadable.TheVariants.{NoText, OpenString, BareQuote, TextAfter, SmallExponent, LogicalWord, EqualsSign, DoubleQuote, Unquoted, NoValue}
use Rattle.fits_value.specs.declared.unwritable.Unwritable.{Unwritable}
use Rattle.fits_value.specs.declared.unwritable.Unwritable.TheVariants.{NotNumber, StringBytes, StringSpaces, StringAmpersand, CommentBytes, CommentSpaces, LongNumber, NoRoom, LongComment}
use Rattle.fits_script.specs.declared.misfit.Misfit.{Misfit}
use Rattle.fits_script.specs.declared.misfit.Misfit.TheVariants.{CarriageReturn, SpaceTooMany, CapitalVerb, NoVerb, WordMissing, WordTooMany, NotHdu, NotPlace, LongName, LongCard, NotValue, NotRectangle, NotPixelValue, NotKind, NotAxes}

-- a byte as it is shown: a question mark where it isn't text; where a string is meant, a quote stands twice
abbrev pub shown_byte : Bool → ℕ → List ℕ
shown_byte in_string byte =
    if not (is_text_byte byte) then codes "?" else if in_string && (byte == 39) then codes "''" else byte ∷ []

-- at most 32 bytes are shown, and two dots where there are more
unfoldable pub shown : Bool → List ℕ → List ℕ
shown in_string word = flat_map (shown_byte in_string) (take 32 word) ++ (if nat_lt 32 (length word) then codes ".." else [])

-- a word as it is shown
abbrev pub shown_word : List ℕ → List ℕ
shown_word word = shown false word

-- a text as it is shown where it is meant as a string
abbrev pub shown_string : List ℕ → List ℕ
shown_string text = shown true text

-- why a text says no value
abbrev pub unreadable_text : Unreadable → List ℕ
unreadable_text NoText = codes "not a value: a byte is no character of text"
unreadable_text OpenString = codes "not a value: a quote is missing at its end"
unreadable_text BareQuote = codes "not a value: a quote in a string is doubled"
unreadable_text TextAfter = codes "text after the value: a comment begins with a slash"
unreadable_text SmallExponent = codes "not a value: an exponent is a capital E or D"
unreadable_text LogicalWord = codes "not a value: T or F"
unreadable_text EqualsSign = codes "not a value: no equals sign comes before it"
unreadable_text DoubleQuote = codes "not a value: a string stands in single quotes"
unreadable_text (Unquoted text) = codes "not a value: a string stands in quotes: '" ++ (shown_string text ++ codes "'")
unreadable_text (NoValue word) = codes "not a value: " ++ shown_word word

-- why a line says no command
abbrev pub misfit_text : Misfit → List ℕ
misfit_text CarriageReturn = codes "a carriage return at the end"
misfit_text (SpaceTooMany byte) = codes "a space too many at byte " ++ decimal byte
misfit_text (CapitalVerb word) = codes "not a command: " ++ (shown_word word ++ codes "; commands are in lower case")
misfit_text (NoVerb word) = codes "not a command: " ++ shown_word word
misfit_text WordMissing = codes "a word is missing"
misfit_text (WordTooMany word) = codes "a word too many: " ++ shown_word word
misfit_text (NotHdu word) = codes "not an HDU: " ++ shown_word word
misfit_text (NotPlace word) = codes "not a place: " ++ shown_word word
misfit_text LongName = codes "not a keyword name: more than 8 characters"
misfit_text (LongCard bytes) = codes "a card of " ++ (decimal bytes ++ codes " bytes, at most 80")
misfit_text (NotValue why) = unreadable_text why
misfit_text (NotRectangle word) = codes "not a rectangle: " ++ shown_word word
misfit_text (NotPixelValue word) = codes "not a pixel value: " ++ shown_word word
misfit_text (NotKind word) = codes "not a kind of pixels: " ++ shown_word word
misfit_text (NotAxes word) = codes "not axes: " ++ shown_word word

-- why a value and a comment can't be written
abbrev pub unwritable_text : Unwritable → List ℕ
unwritable_text NotNumber = codes "the value is no number"
unwritable_text StringBytes = codes "a byte of the string is no character of text"
unwritable_text StringSpaces = codes "the string ends in spaces"
unwritable_text StringAmpersand = codes "the string ends in an ampersand"
unwritable_text CommentBytes = codes "a byte of the comment is no character of text"
unwritable_text CommentSpaces = codes "the comment ends in a space"
unwritable_text LongNumber = codes "the value has more than 70 bytes"
unwritable_text NoRoom = codes "no comment fits after the value"
unwritable_text (LongComment bytes room) = codes "the comment has " ++ (decimal bytes ++ (codes " bytes, " ++ (decimal room ++ codes " fit")))
