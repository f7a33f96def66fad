use Rattle.std.proofs.Common.{subst}
use Rattle.fits_plane.specs.Painting.{Paints}
use Rattle.fits_pieces.specs.Pieces.{unit_of, PiecedState}
use Rattle.fits_pieces.proofs.pieced_unit.PiecedUnit.paint_rect.Goals as goal

-- the unit is painted
pub returns-clause-painted : goal.returns-clause-painted
returns-clause-painted c =
    let it = c.self.inside in
    let new = unit_of it.layout it.gone.bytes c.paint_pieces.new.pieces.items it.scans.total c.paint_pieces.new.tree.joins in
    subst (λ (s : PiecedState). Paints c.args.painting.now s.plane new.plane) c.self.view_is (c.paint_pieces.ensures.painted it.scans.total)
