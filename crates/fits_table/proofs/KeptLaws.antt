-- What a change that keeps columns leaves of a table.
use Rattle.std.proofs.Common.{◌≡◌, ℕ, ℤ, ◌+◌, ◌-◌, ◌≤◌, Bool, true, List, length, Option, None, Some, refl, ap, sym, subst, ◌∙◌, arith, inl, inr}
use Rattle.std.specs.Prelude.{unwrap_or, ◌==◌}
use Rattle.std.specs.Ordering.{int_eq}
use Rattle.std.proofs.lemmas.Bool.{and_parts, cases_Bool, eqb-true, false≢true}
use Rattle.std.proofs.lemmas.Bool.Decides.{Decides-int_eq}
use Rattle.fits_rules.specs.Shape.{shape_of}
use Rattle.fits_table.specs.Fields.{fields_of}
use Rattle.fits_table.specs.Form.{form_width}
use Rattle.fits_table.specs.Judged.{kind_of}
use Rattle.fits_table.specs.Kept.{column_form, column_start, is_same_form, is_same_kind, is_same_number, is_same_type, keeps_by, keeps_column, keeps_columns, keeps_each, keeps_start, keeps_table, pixel_bits, stays}
use Rattle.fits_table.specs.Laws.{ColumnsStay, StaysTable}
use Rattle.fits_table.specs.declared.form.Form.{Form}
use Rattle.fits_table.specs.declared.table_kind.TableKind.{TableKind}
use Rattle.fits_table.specs.declared.table_kind.TableKind.TheVariants.{Ascii, Binary}
use Rattle.fits_table.proofs.KeepingLemmas.{broken_from}

-- what stayed is the same
stayed : {X : Type 0} (same : X → X → Bool) (one : X) (after : Option X) → stays same (Some one) after ≡ true → (other : X) × (after ≡ Some other) × (same one other ≡ true)
stayed same one None kept = absurd (false≢true kept)
stayed same one (Some other) kept = (other, refl, kept)

-- a number
number_stayed : (before after : Option ℕ) (one : ℕ) → stays is_same_number before after ≡ true → before ≡ Some one → after ≡ Some one
number_stayed before after one kept is =
    let same = stayed is_same_number one after (subst (λ b. stays is_same_number b after ≡ true) is kept) in
    same.1 ∙ ap Some (sym (eqb-true one same.0 same.2))

-- an integer
integer_stayed : (before after : Option ℤ) (one : ℤ) → stays int_eq before after ≡ true → before ≡ Some one → after ≡ Some one
integer_stayed before after one kept is =
    let same = stayed int_eq one after (subst (λ b. stays int_eq b after ≡ true) is kept) in
    same.1 ∙ ap Some (sym ((Decides-int_eq one same.0).0 same.2))

-- a kind
kind_stayed : (one other : TableKind) → is_same_kind one other ≡ true → other ≡ one
kind_stayed Ascii Ascii same = refl
kind_stayed Ascii Binary same = cc
kind_stayed Binary Ascii same = cc
kind_stayed Binary Binary same = refl

-- the width of a form
width_stayed : (one other : Form) → is_same_form one other ≡ true → form_width other ≡ form_width one
unfolding is_same_form
width_stayed one other same = sym (eqb-true (form_width one) (form_width other) (and_parts (form_width one == form_width other) (is_same_type one other) same).0)

-- what holds of all columns holds of each
each_stayed : (kind : TableKind) (before after : List (List ℕ)) (fields n : ℕ) → keeps_each kind before after fields ≡ true → 1 ≤ n → n ≤ fields → keeps_column kind before after n ≡ true
each_stayed kind before after fields n all from to =
    elim (cases_Bool (keeps_column kind before after n)) [
      | inl kept ↦ kept
      | inr lost ↦
          let place : 1 + (n - 1) ≡ n = omega (arith, from) in
          absurd (false≢true (sym (broken_from (keeps_column kind before after) 1 fields (n - 1) (omega (arith, from, to)) (ap (keeps_column kind before after) place ∙ lost)) ∙ all))
    ]

-- a table that is kept stays
table_stays : (primary : Bool) (kind : TableKind) (axes : ℕ) (before after : List (List ℕ)) → keeps_table primary kind axes before after ≡ true → StaysTable primary kind axes before after
unfolding keeps_table
table_stays primary kind axes before after kept =
    let first = and_parts _ _ kept in
    let second = and_parts _ _ first.1 in
    let third = and_parts _ _ second.1 in
    let same = stayed is_same_kind kind (kind_of primary after) first.0 in
    let columns : (fields n : ℕ) → fields_of before axes ≡ Some fields → 1 ≤ n → n ≤ fields → keeps_column kind before after n ≡ true =
    λ fields n is from to. each_stayed kind before after fields n (ap (λ f. keeps_each kind before after (unwrap_or f 0)) (sym is) ∙ third.1) from to in
    record {
      kind_is = same.1 ∙ ap Some (kind_stayed kind same.0 same.2);
      fields_are = λ fields is. number_stayed (fields_of before axes) (fields_of after axes) fields second.0 is;
      bits_are = λ bits is. integer_stayed (pixel_bits before) (pixel_bits after) bits third.0 is;
      widths = λ fields n form is from to said.
          let one = (and_parts _ _ (columns fields n is from to)).0 in
          let form_is = stayed is_same_form form (column_form kind after n) (subst (λ b. stays is_same_form b (column_form kind after n) ≡ true) said one) in
          (form_is.0, form_is.1, width_stayed form form_is.0 form_is.2);
      starts = λ fields n start is_ascii is from to said.
          let one = (and_parts _ _ (columns fields n is from to)).1 in
          number_stayed (column_start before n) (column_start after n) start (subst (λ k. keeps_start k before after n ≡ true) is_ascii one) said;
    }

-- a change that keeps columns leaves each table what it is
pub columns_stay : ColumnsStay
unfolding keeps_columns
columns_stay primary kind shape before after is shaped kept =
    table_stays primary kind (length shape.axes) before after
    (subst (λ s. keeps_by primary (Some kind) s before after ≡ true) shaped (subst (λ k. keeps_by primary k (shape_of primary before) before after ≡ true) is kept))
