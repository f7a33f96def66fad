-- A comment that has no room after a string, on a card of its own that ends the string (FITS Standard 4.0, section 4.2.1.2; own).
use Rattle.std.specs.Prelude.{ℕ, ◌-◌, nat_le, not, ◌&&◌, ◌||◌, Bool, true, false, List, [], ◌++◌, length, take, drop, replicate, codes, Option, None, Some, unwrap_or, Result, Err, if◌then◌else◌}
use Rattle.std.specs.List.{slice_get}
use Rattle.std.specs.Str.{bytes_eq}
use Rattle.fits_card.specs.Name.{is_settable}
use Rattle.fits_script.specs.Words.{◌>>=◌}
use Rattle.fits_value.specs.Says.{card_string}
use Rattle.fits_value.specs.Spelling.{doubled}
use Rattle.fits_value.specs.Unwritable.{writable}
use Rattle.fits_value.specs.Written.{quoted, write_says}
use Rattle.fits_value.specs.declared.unwritable.Unwritable.{Unwritable}
use Rattle.fits_value.specs.declared.unwritable.Unwritable.TheVariants.{NoRoom, LongComment}
use Rattle.fits_value.specs.declared.value.Value.{Value}
use Rattle.fits_value.specs.declared.value.Value.TheVariants.{Str}
use Rattle.fits_extended.specs.declared.ending.Ending.{Ending}

-- a value and a comment can be written, but the comment has no room after the value
abbrev pub lacks_room : Result (Unit {0}) Unwritable → Bool
lacks_room (Err NoRoom) = true
lacks_room (Err (LongComment bytes room)) = true
lacks_room other = false

-- a value is a string (4.2.1)
abbrev pub is_string : Value → Bool
is_string (Str text) = true
is_string value = false

-- a sum has a card alone: where the HDU is kept stamped each edit writes it anew (4.4.2.7)
abbrev pub is_sum_name : List ℕ → Bool
is_sum_name name = bytes_eq name (codes "DATASUM ") || bytes_eq name (codes "CHECKSUM")

-- a keyword of this name may have its comment on a card of its own, and wants it there
abbrev pub wants_own_card : List ℕ → Value → Option (List ℕ) → Bool
wants_own_card name value comment = is_settable name && (not (is_sum_name name) && (is_string value && lacks_room (writable value comment)))

-- how a string ends that stands on these cards: how many they are, the first ten bytes of the last one, and what that says
unfoldable pub string_ending : List (List ℕ) → Option Ending
string_ending cards = do
  card ← slice_get cards (length cards - 1)
  piece ← card_string card
  Some (record { count = length cards; lead = take 10 card; piece = piece })

-- how many characters of a piece have room before an ampersand: all, or all but the last where it has 68 bytes between quotes
abbrev pub open_len : List ℕ → ℕ
open_len piece = if nat_le (length (doubled piece)) 67 then length piece else length piece - 1

-- the last card of a string made one that goes on
abbrev pub open_card : Ending → List ℕ
open_card ending = ending.lead ++ quoted (take (open_len ending.piece) ending.piece ++ codes "&")

-- the card that ends it then: what had no room of the piece, which is nothing or its last character, and the comment
abbrev pub comment_card : Ending → List ℕ → List ℕ
comment_card ending comment = codes "CONTINUE  " ++ quoted (drop (open_len ending.piece) ending.piece) ++ (codes " /" ++ comment)

-- how a string ends that is to have its comment on a card of its own, where that has room there
abbrev pub with_room : List ℕ → Ending → Option Ending
with_room comment ending = if nat_le (length (comment_card ending comment)) 80 then Some ending else None

-- the same of a keyword's string, by the cards that it is written to without the comment
unfoldable pub own_ending : List ℕ → Value → Option (List ℕ) → Option Ending
own_ending name value comment =
    if wants_own_card name value comment
    then write_says name value None >>= string_ending >>= with_room (unwrap_or comment [])
    else None

-- a string as a line spells it, with as many characters more as make one card more of it
abbrev pub longer_field : List ℕ → Ending → List ℕ
longer_field text ending = codes "'" ++ doubled text ++ (replicate (69 - length (doubled ending.piece)) 120 ++ codes "'")
