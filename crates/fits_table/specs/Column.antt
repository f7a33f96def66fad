-- What a header says of a column, by the leads of its keywords (FITS Standard 4.0, sections 7.2 and 7.3).
use Rattle.std.specs.Prelude.{ℕ, ◌&&◌, Bool, false, nat_le, ℤ, pos, negsuc, List, Option, None, Some, option_and_then, if◌then◌else◌}
use Rattle.std.specs.Option.{option_map_or}
use Rattle.fits_rules.specs.Reads.{integer_said, string_said}
use Rattle.fits_table.specs.FormSteps.{form_of}
use Rattle.fits_table.specs.Misfit.{has_misfit}
use Rattle.fits_table.specs.Name.{is_odd_name}
use Rattle.fits_table.specs.declared.column.Column.{Column}
use Rattle.fits_table.specs.declared.column_leads.ColumnLeads.{ColumnLeads}
use Rattle.fits_table.specs.declared.form.Form.{Form}
use Rattle.fits_table.specs.declared.table_kind.TableKind.{TableKind}

-- the form that TFORMn says, which is a string (7.2.1, 7.3.1)
abbrev pub form_said : TableKind → Option (List ℕ) → Option Form
form_said kind lead = option_and_then (form_of kind) (option_and_then string_said lead)

-- a place in a row: from 1 on (7.2.1), of 63 bits at most (own)
abbrev pub start_in : ℤ → Option ℕ
start_in (pos number) = if nat_le 1 number && nat_le number 9223372036854775807 then Some number else None
start_in (negsuc number) = None

-- the place that TBCOLn says (7.2.1)
abbrev pub start_said : Option (List ℕ) → Option ℕ
start_said lead = option_and_then start_in (option_and_then integer_said lead)

-- W34: TTYPEn is a string with a character that isn't recommended (7.2.2, 7.3.2)
abbrev pub has_odd_name : Option (List ℕ) → Bool
has_odd_name lead = is_odd_name (option_and_then string_said lead)

-- what the leads say of a column; where it has no form, its other keywords aren't judged by it (own)
unfoldable pub column_of : TableKind → ColumnLeads → Column
column_of kind leads = record {
  form = form_said kind leads.form;
  start = start_said leads.start;
  has_misfit = option_map_or (λ form. has_misfit form leads) (form_said kind leads.form) false;
  has_odd_name = has_odd_name leads.name;
}
