-- The keywords of columns (FITS Standard 4.0, sections 7.2.1, 7.2.2, 7.3.1 and 7.3.2).
use Rattle.std.specs.Prelude.{ℕ, ◌-◌, Bool, ◌&&◌, false, nat_lt, List, [], ◌∷◌, ◌++◌, length, take, drop, codes, replicate, Option, None, if◌then◌else◌}
use Rattle.std.specs.Fmt.{decimal}
use Rattle.std.specs.List.{list_all, take_while}
use Rattle.std.specs.Option.{option_map_or}
use Rattle.std.specs.Str.{bytes_eq}
use Rattle.fits_card.specs.Card.{keyword_name, has_value}
use Rattle.fits_codes.specs.Keywords.{is_count, is_one_of}
use Rattle.fits_rules.specs.Lead.{lead_card}
use Rattle.fits_value.specs.Characters.{is_digit, is_space}
use Rattle.fits_value.specs.Number.{value_of}
use Rattle.fits_value.specs.NumberSteps.{after_digits}
use Rattle.fits_table.specs.Numeral.{numeral}
use Rattle.fits_table.specs.declared.column_leads.ColumnLeads.{ColumnLeads}

-- a keyword of column n: its root and the number, with spaces to the eighth byte (4.1.2.1)
unfoldable pub column_name : List ℕ → ℕ → List ℕ
column_name root n = let text = root ++ decimal n in text ++ replicate (8 - length text) 32

-- the leads of the keywords of column n, which count wherever they stand
unfoldable pub column_leads : List (List ℕ) → ℕ → ColumnLeads
column_leads cards n = record {
  form = lead_card cards (column_name (codes "TFORM") n);
  start = lead_card cards (column_name (codes "TBCOL") n);
  name = lead_card cards (column_name (codes "TTYPE") n);
  dimensions = lead_card cards (column_name (codes "TDIM") n);
  null = lead_card cards (column_name (codes "TNULL") n);
  scale = lead_card cards (column_name (codes "TSCAL") n);
  zero = lead_card cards (column_name (codes "TZERO") n);
  display = lead_card cards (column_name (codes "TDISP") n);
}

-- the roots of five letters
abbrev pub column_roots : List (List ℕ)
column_roots =
    codes "TFORM" ∷ codes "TBCOL" ∷ codes "TTYPE" ∷ codes "TUNIT" ∷ codes "TNULL" ∷ codes "TSCAL" ∷ codes "TZERO" ∷ codes "TDISP"
    ∷ codes "TDMIN" ∷ codes "TDMAX" ∷ codes "TLMIN" ∷ codes "TLMAX" ∷ []

-- digits, of which the first isn't 0, then spaces
abbrev pub count_after : List ℕ → Option ℕ
count_after rest =
    if is_count (take_while is_digit rest) && list_all is_space (after_digits rest) then numeral (take_while is_digit rest) else None

-- the number of the column that a keyword is of
unfoldable pub column_number : List ℕ → Option ℕ
column_number name =
    if is_one_of column_roots (take 5 name) then count_after (drop 5 name)
    else (if bytes_eq (take 4 name) (codes "TDIM") then count_after (drop 4 name) else None)

-- the number of the digits that three bytes begin with
abbrev pub front_number : ℕ → ℕ → ℕ → ℕ
front_number first second third = value_of (take_while is_digit (first ∷ second ∷ third ∷ []))

-- a number is one after so many
abbrev pub is_after : ℕ → Option ℕ → Bool
is_after fields number = option_map_or (λ number. nat_lt fields number) number false

-- the card has a value for a column after so many
abbrev pub is_past : ℕ → List ℕ → Bool
is_past fields card = has_value card && is_after fields (column_number (keyword_name card))
