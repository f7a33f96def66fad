-- Whether a value and a comment can be written and fit their cards, and why not (own).
use Rattle.std.specs.Prelude.{ℕ, zero, suc, ◌+◌, ◌-◌, nat_le, nat_lt, max, List, length, drop, Option, None, Some, Result, Ok, Err, if◌then◌else◌}
use Rattle.std.specs.Result.{result_and}
use Rattle.fits_value.specs.Spelling.{doubled}
use Rattle.fits_value.specs.Written.{quoted, value_field, fitting, is_long, characters_of, unless, writable_parts}
use Rattle.fits_value.specs.declared.unwritable.Unwritable.{Unwritable}
use Rattle.fits_value.specs.declared.unwritable.Unwritable.TheVariants.{LongNumber, NoRoom, LongComment}
use Rattle.fits_value.specs.declared.value.Value.{Value}

-- what the last card has of a string over at most so many cards and one more (4.2.1.2)
abbrev pub last_piece : ℕ → List ℕ → List ℕ
last_piece zero text = text
last_piece (suc more) text =
    if nat_le (length (doubled text)) 68 then text else last_piece more (drop (fitting 67 text) text)

-- what the card with the comment has of a value: its field, or the last piece of a long string
abbrev pub last_field : Value → List ℕ
last_field value =
    if is_long value
    then quoted (last_piece (length (characters_of value)) (characters_of value))
    else value_field value

-- how many bytes of that card come before the comment: the first ten, and these
unfoldable pub value_end : Value → ℕ
value_end value = 10 + length (last_field value)

-- how many bytes a comment may have after so many: a space and a slash come before it, which is past byte 32 (4.1.2.3)
abbrev pub comment_room : ℕ → ℕ
comment_room before = 78 - max 30 before

-- a comment has room after so many bytes, or why not
abbrev pub comment_has_room : ℕ → Option (List ℕ) → Result (Unit {0}) Unwritable
comment_has_room before None = Ok tt
comment_has_room before (Some comment) =
    if nat_lt 78 before then Err NoRoom
    else unless (nat_le (length comment) (comment_room before)) (LongComment (length comment) (comment_room before))

-- a card has room for so many bytes and a comment, or why not
unfoldable pub has_room : ℕ → Option (List ℕ) → Result (Unit {0}) Unwritable
has_room before comment = if nat_lt 80 before then Err LongNumber else comment_has_room before comment

-- a value and a comment can be written, or the first fault: of the value, of the comment, of the room for both
unfoldable pub writable : Value → Option (List ℕ) → Result (Unit {0}) Unwritable
writable value comment = result_and (writable_parts value comment) (has_room (value_end value) comment)
