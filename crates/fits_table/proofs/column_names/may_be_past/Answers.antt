use Rattle.std.proofs.Common.{rules, ◌≡◌, ◌≤◌, false, length, get_or, ap, ◌∙◌, arith}
use Rattle.std.proofs.lemmas.Bool.{ltb-false}
use Rattle.fits_value.specs.Characters.{is_digit}
use Rattle.fits_table.specs.Leads.{column_number, front_number, is_after}
use Rattle.fits_table.proofs.ColumnNameLemmas.{past_quick}
use Rattle.fits_table.proofs.column_names.may_be_past.Goals as goal

pub returns-else-is_ascii_digit : goal.returns-else-is_ascii_digit
returns-else-is_ascii_digit c = λ off.
    let name = c.name.inside.0 in
    let is : c.args.name.now ≡ name = search rules in
    let size : length name ≡ 8 = search rules in
    let other : is_digit (get_or name 4 0) ≡ false = search rules in
    let front : c.front_number.result ≡ front_number (get_or name 5 0) (get_or name 6 0) (get_or name 7 0) = c.front_number.ensures in
    let small : c.front_number.result ≤ c.args.fields = ltb-false c.args.fields c.front_number.result off in
    ap (λ it. is_after c.args.fields (column_number it)) is ∙ past_quick c.args.fields name size other (omega (arith, front, small))
