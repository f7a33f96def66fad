-- Values in fixed format (FITS Standard 4.0, sections 4.2.1.1, 4.2.2 and 4.2.3).
use Rattle.std.specs.Prelude.{ℕ, ◌+◌, ◌==◌, Bool, true, false, ◌&&◌, nat_le, List, length, drop, Option, None, Some, option_and_then, if◌then◌else◌}
use Rattle.std.specs.List.{prefix_len}
use Rattle.std.specs.Option.{option_map_or}
use Rattle.fits_value.specs.Characters.{is_space}
use Rattle.fits_value.specs.Field.{field}
use Rattle.fits_value.specs.Scan.{closing_of}
use Rattle.fits_value.specs.Value.{kind_of}
use Rattle.fits_value.specs.declared.reading.ValueKind.{ValueKind}
use Rattle.fits_value.specs.declared.reading.Span.{Span}
use Rattle.fits_value.specs.declared.value.Value.{Value}
use Rattle.fits_value.specs.declared.value.Value.TheVariants.{Logical, Integer, Str}
use Rattle.fits_value.specs.declared.reading.ValueKind.TheVariants as kind
use Rattle.fits_rules.specs.Reads.{value_said}

-- a value stands in a field of bytes 11 to 80 as fixed format asks: a logical value in byte 30, the last digit of an integer too,
-- a string from byte 11 to byte 20 or later (4.2.1.1, 4.2.2, 4.2.3, 4.4.1.2)
abbrev pub stands_fixed : List ℕ → Value → Bool
stands_fixed field (Logical flag) = prefix_len is_space field == 19
stands_fixed field (Integer digits) = prefix_len is_space field + length digits == 20
stands_fixed field (Str characters) = (prefix_len is_space field == 0) && option_map_or (nat_le 8) (closing_of (drop 1 field)) false
stands_fixed field value = false

-- the type of a value that stands so
abbrev pub fixed_type : List ℕ → Value → Option ValueKind
fixed_type field value = if stands_fixed field value then Some (kind_of value) else None

-- the type of the value that a card has in fixed format
unfoldable pub fixed_said : List ℕ → Option ValueKind
fixed_said card = option_and_then (fixed_type (field card)) (value_said card)

-- the card is in fixed format for this type
abbrev pub is_fixed_as : ValueKind → Option ValueKind → Bool
is_fixed_as kind.Logical (Some kind.Logical) = true
is_fixed_as kind.Integer (Some kind.Integer) = true
is_fixed_as kind.Str (Some kind.Str) = true
is_fixed_as type fixed = false

-- the same by the places of a value's bytes in its card, counted from 0 (own)
abbrev pub span_fixed : ValueKind → Span → Bool
span_fixed kind.Logical span = span.end == 30
span_fixed kind.Integer span = span.end == 30
span_fixed kind.Str span = (span.start == 10) && nat_le 20 span.end
span_fixed type span = false
