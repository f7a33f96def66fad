use Rattle.std.proofs.Common.{rules, ◌≡◌, length, ◌∙◌}
use Rattle.fits_table.proofs.ColumnNameLemmas.{root_named}
use Rattle.fits_table.proofs.column_names.column_name.Goals as goal

pub returns : goal.returns
returns c = λ n is.
    let axis = c.axis.inside.0 in
    let root_size : length c.args.root.now ≡ 5 = search rules in
    let axis_size : length axis ≡ 8 = search rules in
    let same : axis ≡ c.args.axis.now = search rules in
    root_named c.args.root.now axis n root_size axis_size (same ∙ is)
