-- What is wrong with the header of a table (FITS Standard 4.0, sections 7.2 and 7.3): one fact for each code.
use Rattle.std.specs.Prelude.{ℕ, ◌+◌, ◌*◌, ◌==◌, ◌&&◌, ◌||◌, Bool, true, false, not, nat_le, is_some, pos, List, [], ◌∷◌, Option, None, Some, if◌then◌else◌}
use Rattle.std.specs.Ordering.{int_eq}
use Rattle.fits_rules.specs.declared.array_shape.Shape.{Shape}
use Rattle.fits_rules.specs.declared.integers.IntegerSaid.{IntegerSaid}
use Rattle.fits_rules.specs.declared.integers.IntegerSaid.TheVariants.{Number}
use Rattle.fits_table.specs.declared.columns_mark.ColumnsMark.{ColumnsMark}
use Rattle.fits_table.specs.declared.table_code.TableCode.{TableCode}
use Rattle.fits_table.specs.declared.table_code.TableCode.TheVariants.{BadFieldCount, NoForm, NotARow, HeapOutside, KeywordMisfit, DuplicateName, PastFields, OddName}
use Rattle.fits_table.specs.declared.table_kind.TableKind.{TableKind}
use Rattle.fits_table.specs.declared.table_kind.TableKind.TheVariants.{Ascii, Binary}
use Rattle.fits_table.specs.declared.table_mark.TableMark.{TableMark}
use Rattle.fits_table.specs.declared.rows.Rows.{Rows}

-- rows by their two axes
abbrev pub rows_in : List ℕ → Option Rows
rows_in (width ∷ count ∷ []) = Some (record { width = width; count = count })
rows_in axes = None

-- BITPIX is 8 and GCOUNT 1, and in a TABLE PCOUNT is 0 (7.2.1, 7.3.1)
abbrev pub is_plain : TableKind → Shape → Bool
is_plain Ascii shape = int_eq shape.bitpix (pos 8) && (shape.gcount == 1) && (shape.pcount == 0)
is_plain Binary shape = int_eq shape.bitpix (pos 8) && (shape.gcount == 1)

-- the rows of bytes that the shape of a table describes (7.2.1, 7.3.1)
unfoldable pub rows_of : TableKind → Shape → Option Rows
rows_of kind shape = if is_plain kind shape then rows_in shape.axes else None

-- the columns don't fit into a row of a TABLE, or aren't a row of a BINTABLE (7.2.1, 7.3.1)
abbrev pub is_no_row : TableKind → ColumnsMark → Rows → Bool
is_no_row Ascii columns rows = columns.leaves_row
is_no_row Binary columns rows = not (columns.width == rows.width)

-- E29: there are no rows of bytes, or the columns, where all have a form, don't make them up
abbrev pub has_no_row : TableKind → ColumnsMark → Option Rows → Bool
has_no_row kind columns None = true
has_no_row kind columns (Some rows) = not columns.lacks_form && is_no_row kind columns rows

-- where the heap begins, in bytes from the first row's: behind the last row without THEAP (7.3.2)
abbrev pub heap_start : ℕ → Option IntegerSaid → Option ℕ
heap_start end None = Some end
heap_start end (Some (Number (pos start))) = Some start
heap_start end (Some said) = None

-- it lies between the end of the rows and that of the data
abbrev pub is_within : ℕ → ℕ → Option ℕ → Bool
is_within end pcount None = false
is_within end pcount (Some start) = nat_le end start && nat_le start (end + pcount)

-- E30: the heap of a BINTABLE lies elsewhere, or THEAP stands where PCOUNT is 0; a TABLE has no heap (7.3.2)
abbrev pub has_heap_outside : TableKind → ℕ → Option IntegerSaid → Option Rows → Bool
has_heap_outside Binary pcount said (Some rows) =
    let end = rows.width * rows.count in
    not (is_within end pcount (heap_start end said)) || (is_some said && (pcount == 0))
has_heap_outside kind pcount said rows = false

-- a table whose TFIELDS is read has what a code names
abbrev pub has_code_of_columns : TableKind → Shape → TableMark → TableCode → Bool
has_code_of_columns kind shape mark BadFieldCount = false
-- E28: a column has no form or place
has_code_of_columns kind shape mark NoForm = mark.columns.lacks_form
has_code_of_columns kind shape mark NotARow = has_no_row kind mark.columns (rows_of kind shape)
has_code_of_columns kind shape mark HeapOutside = has_heap_outside kind shape.pcount mark.heap (rows_of kind shape)
has_code_of_columns kind shape mark KeywordMisfit = mark.columns.has_misfit
has_code_of_columns kind shape mark DuplicateName = mark.has_twins
has_code_of_columns kind shape mark PastFields = mark.has_past
has_code_of_columns kind shape mark OddName = mark.columns.has_odd_name

-- E27: TFIELDS says no number of columns in its place
abbrev pub is_bad_field_count : TableCode → Bool
is_bad_field_count BadFieldCount = true
is_bad_field_count code = false

-- a table has what a code names; without a number of columns it has E27 alone (own)
unfoldable pub has_table_code : TableKind → Shape → TableMark → TableCode → Bool
has_table_code kind shape mark code = if is_some mark.fields then has_code_of_columns kind shape mark code else is_bad_field_count code
