-- How a line of output is read by its columns (own).
use Rattle.std.specs.Borrow.{Bor}
use Rattle.std.specs.Prelude.{ℕ, ◌+◌, ◌==◌, nat_le, min, Bool, false, not, ◌&&◌, ◌||◌, List, [], ◌∷◌, length, take, drop, Option, Some, None, if◌then◌else◌}
use Rattle.std.specs.Char.{is_ascii_digit}
use Rattle.std.specs.List.{prefix_len}
use Rattle.std.specs.Str.{bytes_eq}
use Rattle.fits_json.specs.declared.column.Column.{Column}
use Rattle.fits_json.specs.declared.column.Kind.{Kind}
use Rattle.fits_json.specs.declared.column.Kind.TheVariants.{Number, Numbers, Text, Through, Quoted, Rest}

-- a digit or a sign
abbrev pub is_number_byte : ℕ → Bool
is_number_byte byte = is_ascii_digit byte || (byte == 43) || (byte == 45)

-- how many bytes a string in quotes has at the front of a text, where it has begun or not: a quote in it is doubled
abbrev pub quotes_len : Bool → List ℕ → ℕ
quotes_len inside [] = 0
quotes_len inside (byte ∷ bytes) =
    if byte == 39 then 1 + quotes_len (not inside) bytes else (if inside then 1 + quotes_len inside bytes else 0)

-- how many bytes of a text a field of this kind takes
abbrev pub field_len : Kind → List ℕ → ℕ
field_len Number text = prefix_len is_number_byte text
field_len (Numbers separator) text = prefix_len (λ byte. is_number_byte byte || (byte == separator)) text
field_len (Text stop) text = prefix_len (λ byte. not (byte == stop)) text
field_len (Through last) text = min (length text) (prefix_len (λ byte. not (byte == last)) text + 1)
field_len Quoted text = quotes_len false text
field_len Rest text = length text
field_len kind text = 0

-- how many it takes at least
abbrev pub least_len : Kind → ℕ
least_len Number = 1
least_len Quoted = 2
least_len kind = 0

-- a text begins so
abbrev pub begins_so : List ℕ → List ℕ → Bool
begins_so text lead = nat_le (length lead) (length text) && bytes_eq (take (length lead) text) lead

-- what follows what stands before a column's field
abbrev pub behind_lead : Column → List ℕ → List ℕ
behind_lead column text = drop (length column.lead.now) text

-- a column stands at the front of a text
abbrev pub stands_first : Column → List ℕ → Bool
stands_first column text = begins_so text column.lead.now && nat_le (least_len column.kind) (field_len column.kind (behind_lead column text))

-- its field
abbrev pub field_in : Column → List ℕ → List ℕ
field_in column text = take (field_len column.kind (behind_lead column text)) (behind_lead column text)

-- what follows it
abbrev pub behind_column : Column → List ℕ → List ℕ
behind_column column text = drop (field_len column.kind (behind_lead column text)) (behind_lead column text)

-- a text is these columns in their order, but for some that may lack
abbrev pub has_form : List Column → List ℕ → Bool
has_form [] text = length text == 0
has_form (column ∷ columns) text =
    if stands_first column text then has_form columns (behind_column column text) else (column.may_lack && has_form columns text)

-- the first of these forms that a text has
abbrev pub form_of : List (Bor (List Column)) → List ℕ → Option (List Column)
form_of [] text = None
form_of (form ∷ forms) text = if has_form form.now text then Some form.now else form_of forms text
