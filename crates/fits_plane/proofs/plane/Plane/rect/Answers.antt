use Rattle.std.proofs.Common.{◌∙◌, ap, sym}
use Rattle.fits_plane.proofs.PlaneLemmas.{layout_width}
use Rattle.fits_plane.proofs.plane.Plane.rect.Goals as goal

pub read_rows-requires-clause-width : goal.read_rows-requires-clause-width
read_rows-requires-clause-width c =
    layout_width c.self.inside.layout _ c.args.axes.now c.args.lo.now c.args.hi.now c.self.invariant.layout c.requires.rectangle (c.requires.all ∙ sym (ap (λ z. z.layout.pixels) c.self.view_is))
