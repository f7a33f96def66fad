-- Names that earlier cards have, as a pass over the sorted entries finds them (own).
use Rattle.std.specs.Prelude.{◌==◌, ◌||◌, true, false, if◌then◌else◌}
use Rattle.fits_codes.specs.declared.surrounding.Surrounding.{Surrounding}
use Rattle.fits_header.specs.declared.entry.Entry.{Entry}
use Rattle.fits_header.specs.declared.seen.Seen.{Seen}

-- what was seen of an entry's name, before it
abbrev pub seen_at : Seen → Entry → Seen
seen_at seen entry =
    if seen.name == entry.name then seen else record { name = entry.name; has_card = false; has_value = false }

-- and with it
abbrev pub seen_with : Seen → Entry → Seen
seen_with seen entry = record { name = seen.name; has_card = true; has_value = seen.has_value || entry.has_value }

-- what a pass marks there
abbrev pub marked_by : Seen → Surrounding → Surrounding
marked_by seen surrounding = record { name_before = seen.has_card; value_before = seen.has_value; is_link = surrounding.is_link }
