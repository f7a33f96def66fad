use Rattle.std.proofs.Common.{◌∙◌, ap}
use Rattle.fits_pixels.specs.Pixels.{pixels}
use Rattle.fits_pixels.specs.Statistics.{statistics}
use Rattle.fits_pieces.specs.Pieces.{PiecedState}
use Rattle.fits_pieces.proofs.PiecesLemmas.{root_statistics}
use Rattle.fits_pieces.proofs.pieced_unit.PiecedUnit.stats.Goals as goal

pub returns : goal.returns
returns c =
    let it = c.self.inside in
    let v = c.self.invariant.are in
    ap (λ z. z.first) c.root.ensures ∙ root_statistics it.layout it.gone.bytes it.len it.pieces.items it.tree.leaves v
    ∙ ap (λ (s : PiecedState). statistics s.plane.layout.blank (pixels s.plane.layout.width s.plane.bytes 0 s.plane.layout.pixels)) c.self.view_is
