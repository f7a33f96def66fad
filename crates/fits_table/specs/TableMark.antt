-- The mark of a table's header: what it says of its columns, as far as the rules ask (FITS Standard 4.0, sections 7.2 and 7.3; own).
use Rattle.std.specs.Prelude.{ℕ, List, length, Option, map, option_and_then, unwrap_or, codes}
use Rattle.std.specs.List.{list_any, range_with_len}
use Rattle.std.specs.Option.{option_map, option_map_or}
use Rattle.fits_rules.specs.Lead.{lead_card}
use Rattle.fits_rules.specs.Reads.{in_64_bits, integer_said, string_said}
use Rattle.fits_rules.specs.declared.array_shape.Shape.{Shape}
use Rattle.fits_rules.specs.declared.integers.IntegerSaid.{IntegerSaid}
use Rattle.fits_table.specs.Column.{column_of}
use Rattle.fits_table.specs.Columns.{columns_mark}
use Rattle.fits_table.specs.Fields.{fields_of}
use Rattle.fits_table.specs.Leads.{column_leads, is_past}
use Rattle.fits_table.specs.Name.{has_twins}
use Rattle.fits_table.specs.Table.{rows_of}
use Rattle.fits_table.specs.declared.column_leads.ColumnLeads.{ColumnLeads}
use Rattle.fits_table.specs.declared.table_kind.TableKind.{TableKind}
use Rattle.fits_table.specs.declared.table_mark.TableMark.{TableMark}

-- how many bytes a row has, where there are rows
abbrev pub row_width : TableKind → Shape → ℕ
row_width kind shape = option_map_or (λ rows. rows.width) (rows_of kind shape) 0

-- the leads of so many columns
abbrev pub leads_of : List (List ℕ) → ℕ → List ColumnLeads
leads_of cards fields = map (column_leads cards) (range_with_len 1 fields)

-- what THEAP's lead says
abbrev pub heap_said : List (List ℕ) → Option IntegerSaid
heap_said cards = option_map (λ card. in_64_bits (integer_said card)) (lead_card cards (codes "THEAP   "))

-- the names that their TTYPEn say
abbrev pub names_of : List ColumnLeads → List (Option (List ℕ))
names_of leads = map (λ column. option_and_then string_said column.name) leads

-- the mark of a header with this shape: of as many columns as TFIELDS says, and of none where it says no number
unfoldable pub table_mark_of : TableKind → List (List ℕ) → Shape → TableMark
table_mark_of kind cards shape =
    let fields = fields_of cards (length shape.axes) in
    let leads = leads_of cards (unwrap_or fields 0) in
    record {
      fields = fields;
      columns = columns_mark kind (row_width kind shape) (map (column_of kind) leads);
      heap = heap_said cards;
      has_twins = has_twins (names_of leads);
      has_past = list_any (is_past (unwrap_or fields 0)) cards;
    }
