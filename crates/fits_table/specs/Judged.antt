-- The codes of a header as that of a table (FITS Standard 4.0, sections 7.2 and 7.3).
use Rattle.std.specs.Prelude.{ℕ, Bool, List, [], filter, Option, None, Some, Result, Ok, option_and_then, if◌then◌else◌, false}
use Rattle.fits_card.specs.Header.{card_at}
use Rattle.fits_rules.specs.Reads.{string_said}
use Rattle.fits_rules.specs.Shape.{shape_of}
use Rattle.fits_rules.specs.declared.array_shape.Shape.{Shape}
use Rattle.fits_table.specs.Table.{has_table_code}
use Rattle.fits_table.specs.TableKind.{kind_named}
use Rattle.fits_table.specs.TableMark.{table_mark_of}
use Rattle.fits_table.specs.declared.table_code.TableCode.{TableCode}
use Rattle.fits_table.specs.declared.table_code.TheConstants.{TABLE_CODES}
use Rattle.fits_table.specs.declared.table_kind.TableKind.{TableKind}
use Rattle.fits_table.specs.declared.table_mark.TableMark.{TableMark}

-- the kind of the table that an extension is, by its first card (7.2.1, 7.3.1)
abbrev pub kind_of : Bool → List (List ℕ) → Option TableKind
kind_of primary cards = if primary then None else kind_named (option_and_then string_said (card_at cards 1))

-- those of all codes that a mark has, by number
abbrev pub codes_of_mark : TableKind → Shape → TableMark → List TableCode
codes_of_mark kind shape mark = filter (has_table_code kind shape mark) TABLE_CODES

-- the codes of a table of this shape
abbrev pub codes_of_table : TableKind → List (List ℕ) → Shape → List TableCode
codes_of_table kind cards shape = codes_of_mark kind shape (table_mark_of kind cards shape)

-- those of a header that describes a shape, as that of a table of this kind
abbrev pub codes_by : Option TableKind → Result Shape ℕ → List (List ℕ) → List TableCode
codes_by (Some kind) (Ok shape) cards = codes_of_table kind cards shape
codes_by kind shape cards = []

-- the codes of a header, of the primary HDU or of an extension: none where it is no table's
unfoldable pub table_codes : Bool → List (List ℕ) → List TableCode
table_codes primary cards = codes_by (kind_of primary cards) (shape_of false cards) cards
