-- What the columns of a table come to (FITS Standard 4.0, sections 7.2.1 and 7.3.1).
use Rattle.std.specs.Prelude.{ℕ, ◌+◌, Bool, ◌||◌, false, nat_lt, is_none, List}
use Rattle.std.specs.List.{list_any, sum_by}
use Rattle.std.specs.Option.{option_map_or}
use Rattle.fits_table.specs.DimensionSteps.{limited}
use Rattle.fits_table.specs.Form.{form_width}
use Rattle.fits_table.specs.declared.column.Column.{Column}
use Rattle.fits_table.specs.declared.columns_mark.ColumnsMark.{ColumnsMark}
use Rattle.fits_table.specs.declared.table_kind.TableKind.{TableKind}
use Rattle.fits_table.specs.declared.table_kind.TableKind.TheVariants.{Ascii, Binary}

-- how many bytes of a row a column takes: none without a form
abbrev pub column_width : Column → ℕ
column_width column = option_map_or form_width column.form 0

-- a column has no readable TFORM, or in a TABLE no readable TBCOL (7.2.1, 7.3.1)
abbrev pub lacks_form : TableKind → Column → Bool
lacks_form Ascii column = is_none column.form || is_none column.start
lacks_form Binary column = is_none column.form

-- the last character of a column's field stands after the row, whose characters count from 1 (7.2.1)
abbrev pub leaves_row : ℕ → Column → Bool
leaves_row row column = option_map_or (λ start. nat_lt (row + 1) (start + column_width column)) column.start false

-- what the columns come to, in rows of so many bytes
unfoldable pub columns_mark : TableKind → ℕ → List Column → ColumnsMark
columns_mark kind row columns = record {
  width = limited (sum_by column_width columns);
  lacks_form = list_any (lacks_form kind) columns;
  leaves_row = list_any (leaves_row row) columns;
  has_misfit = list_any (λ column. column.has_misfit) columns;
  has_odd_name = list_any (λ column. column.has_odd_name) columns;
}
