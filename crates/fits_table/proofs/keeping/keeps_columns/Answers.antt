use Rattle.std.proofs.Common.{◌∙◌, ap, arith, length}
use Rattle.fits_rules.specs.Class.{is_primary}
use Rattle.fits_rules.specs.declared.array_shape.Shape.{Shape}
use Rattle.fits_rules.proofs.LawLemmas.{shape_bounded}
use Rattle.fits_table.proofs.keeping.keeps_columns.Goals as goal

pub keeps_table-requires-clause-few : goal.keeps_table-requires-clause-few
keeps_table-requires-clause-few c =
    let shape : Shape = c.args.header.now.shape in
    let few = (shape_bounded (is_primary shape.class) c.args.header.now.header.cards shape c.shape.ensures.described).count in
    omega (arith, few, ap length (c.as_slice-axes.ensures ∙ ap (λ (s : Shape). s.axes) c.shape-2.ensures.value))
