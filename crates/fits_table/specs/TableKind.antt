-- The kinds of tables (FITS Standard 4.0, sections 7.2 and 7.3).
use Rattle.std.specs.Prelude.{ℕ, List, Option, None, Some, codes, if◌then◌else◌}
use Rattle.std.specs.Str.{bytes_eq}
use Rattle.fits_table.specs.declared.table_kind.TableKind.{TableKind}
use Rattle.fits_table.specs.declared.table_kind.TableKind.TheVariants.{Ascii, Binary}

-- the kind of a table, by the string of its XTENSION card (7.2.1, 7.3.1)
abbrev pub kind_named : Option (List ℕ) → Option TableKind
kind_named None = None
kind_named (Some text) = if bytes_eq text (codes "TABLE") then Some Ascii else (if bytes_eq text (codes "BINTABLE") then Some Binary else None)
