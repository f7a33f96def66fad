-- A line of output as one JSON object (own; RFC 8259).
use Rattle.std.specs.Borrow.{Bor}
use Rattle.std.specs.Prelude.{◌≡◌, ℕ, ◌==◌, false, List, [], ◌∷◌, codes, Option, Some, None, if◌then◌else◌}
use Rattle.std.specs.List.{list_any}
use Rattle.serde_json.specs.Data.{Data, string, object, Members, no_members, put}
use Rattle.serde_json.specs.Read.{read}
use Rattle.serde_json.specs.Written.{compact_text}
use Rattle.fits_json.specs.Columns.{behind_column, form_of, stands_first}
use Rattle.fits_json.specs.Values.{characters, with_field}
use Rattle.fits_json.specs.declared.column.Column.{Column}

-- members with the fields of those columns that stand in a text
abbrev pub with_fields : List Column → List ℕ → Members → Members
with_fields [] text found = found
with_fields (column ∷ columns) text found =
    if stands_first column text then with_fields columns (behind_column column text) (with_field column text found)
    else with_fields columns text found

-- members with those of a text that has this form; of one that has none, with the text as it is
abbrev pub with_line : Option (List Column) → List ℕ → Members → Members
with_line (Some columns) line found = with_fields columns line found
with_line None line found = put (codes "line") (string (characters line)) found

-- the name of a line's file alone
abbrev pub of_file : List ℕ → Members
of_file name = put (codes "file") (string name) no_members

-- what a line of a file says, by the first of these forms that it has
abbrev pub data_of_line : List ℕ → List (Bor (List Column)) → List ℕ → Data
data_of_line name forms line = object (with_line (form_of forms line) line (of_file name))

-- that as JSON
abbrev pub json_of_line : List ℕ → List (Bor (List Column)) → List ℕ → List ℕ
json_of_line name forms line = compact_text (data_of_line name forms line)

-- no byte is a line feed
abbrev pub IsUnended : List ℕ → Type 0
IsUnended bytes = list_any (λ byte. byte == 10) bytes ≡ false

-- the JSON of a line reads as what the line says, and is one line
pub record ReadsAsLine (name : List ℕ) (forms : List (Bor (List Column))) (line : List ℕ) : Type 0 where
  pub reads : read (json_of_line name forms line) ≡ Some (data_of_line name forms line)
  pub one_line : IsUnended (json_of_line name forms line)
