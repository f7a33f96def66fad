use Rattle.std.proofs.Common.{◌/◌, ◌∙◌, ap}
use Rattle.fits_plane.specs.Rectangle.{rectangle_size}
use Rattle.fits_plane.proofs.RowLemmas.{rows_are}
use Rattle.fits_plane.proofs.rectangle.rows.Goals as goal

pub returns : goal.returns
returns c =
    ap (λ m. m / c.row_len.result) c.rectangle_len.ensures ∙ ap (λ n. rectangle_size c.args.lo.now c.args.hi.now / n) c.row_len.ensures.value
    ∙ rows_are c.args.axes.now c.args.lo.now c.args.hi.now c.requires.rectangle
