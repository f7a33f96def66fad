use Rattle.std.proofs.Common.{subst}
use Rattle.fits_pixels.specs.Layout.{IsLayout}
use Rattle.fits_pieces.specs.Pieces.{PiecedState}
use Rattle.fits_pieces.proofs.PiecesLemmas.{fits-with}
use Rattle.fits_pieces.proofs.pieced_unit.PiecedUnit.layout.Goals as goal

pub returns-clause-fits : goal.returns-clause-fits
returns-clause-fits c =
    let it = c.self.inside in
    subst (λ (s : PiecedState). IsLayout it.layout s.plane.bytes) c.self.view_is (fits-with it.layout it.gone.bytes it.pieces.items c.self.invariant.are.cut)
