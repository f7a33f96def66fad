-- One column more.
use Rattle.std.proofs.Common.{◌≡◌, ℕ, ◌≤◌, ◌+◌, ◌-◌, ◌^◌, ◌||◌, Bool, true, false, List, [], ◌∷◌, ◌++◌, refl, ap, sym, ◌∙◌, arith, inl, inr}
use Rattle.std.specs.Prelude.{min}
use Rattle.std.specs.List.{list_any, sum_by}
use Rattle.std.proofs.Math.Nat.{min-eq_left, min-eq_right}
use Rattle.std.proofs.lemmas.Bool.{cases_lt}
use Rattle.std.proofs.lemmas.List.Folds.{list_any-append}
use Rattle.std.proofs.lemmas.List.Sums.{sum_by-append}
use Rattle.fits_table.specs.Columns.{column_width, lacks_form, leaves_row, columns_mark}
use Rattle.fits_table.specs.DimensionSteps.{limited}
use Rattle.fits_table.specs.declared.column.Column.{Column}
use Rattle.fits_table.specs.declared.columns_mark.ColumnsMark.{ColumnsMark}
use Rattle.fits_table.specs.declared.table_kind.TableKind.{TableKind}

-- a limited number with another added, limited, is the sum limited
limited_sum : (a b m : ℕ) → min (min a m + b) m ≡ min (a + b) m
limited_sum a b m = elim (cases_lt m a) [
  | inl large ↦
      let one : m ≤ a = omega arith in
      let two : m ≤ m + b = omega arith in
      let three : m ≤ a + b = omega arith in
      ap (λ n. min (n + b) m) (min-eq_right one) ∙ (min-eq_right two ∙ sym (min-eq_right three))
  | inr small ↦ ap (λ n. min (n + b) m) (min-eq_left small)
]

-- the width of one column more
width_more : (columns : List Column) (column : Column) → min (limited (sum_by column_width columns) + column_width column) (2 ^ 128 - 1) ≡ limited (sum_by column_width (columns ++ column ∷ []))
width_more columns column =
    let sum : sum_by column_width (columns ++ column ∷ []) ≡ sum_by column_width columns + column_width column =
    sum_by-append column_width columns (column ∷ []) ∙ (let one : 0 + column_width column ≡ column_width column = omega arith in ap (λ n. sum_by column_width columns + n) one) in
    limited_sum (sum_by column_width columns) (column_width column) (2 ^ 128 - 1) ∙ sym (ap limited sum)

-- nothing more after what holds or not
or_false : (b : Bool) → (b || false) ≡ b
or_false true = refl
or_false false = refl

-- what holds of one in a list, or of one more
pub any_more : {X : Type 0} (p : X → Bool) (xs : List X) (x : X) → (list_any p xs || p x) ≡ list_any p (xs ++ x ∷ [])
any_more p xs x = sym (list_any-append p xs (x ∷ []) ∙ ap (λ b. list_any p xs || b) (or_false (p x)))

-- all of it
pub with_more : (kind : TableKind) (row : ℕ) (columns : List Column) (column : Column) (before : ColumnsMark) → before ≡ columns_mark kind row columns →
    ◌≡◌ {A = ColumnsMark} (record {
      width = min (before.width + column_width column) (2 ^ 128 - 1);
      lacks_form = before.lacks_form || lacks_form kind column;
      leaves_row = before.leaves_row || leaves_row row column;
      has_misfit = before.has_misfit || column.has_misfit;
      has_odd_name = before.has_odd_name || column.has_odd_name;
    }) (columns_mark kind row (columns ++ column ∷ []))
unfolding columns_mark
with_more kind row columns column before is = rw (is, width_more columns column, any_more (lacks_form kind) columns column, any_more (leaves_row row) columns column, any_more (λ column. column.has_misfit) columns column, any_more (λ column. column.has_odd_name) columns column) refl

pub ruleset columns_steps = (with_more)
