use Rattle.std.proofs.Common.{rules, ◌≡◌, length, ◌∙◌}
use Rattle.fits_table.proofs.ColumnNameLemmas.{dimensions_named}
use Rattle.fits_table.proofs.column_names.dimensions_name.Goals as goal

pub returns : goal.returns
returns c = λ n is.
    let axis = c.axis.inside.0 in
    let axis_size : length axis ≡ 8 = search rules in
    let same : axis ≡ c.args.axis.now = search rules in
    dimensions_named axis n axis_size (same ∙ is)
