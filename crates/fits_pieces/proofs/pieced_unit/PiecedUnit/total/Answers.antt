use Rattle.std.proofs.Common.{◌∙◌, ap}
use Rattle.fits_sum.specs.Words.{word_total}
use Rattle.fits_pieces.specs.Pieces.{PiecedState}
use Rattle.fits_pieces.proofs.PiecesLemmas.{root_total}
use Rattle.fits_pieces.proofs.pieced_unit.PiecedUnit.total.Goals as goal

pub returns : goal.returns
returns c =
    let it = c.self.inside in
    let v = c.self.invariant.are in
    ap (λ z. z.second.total) c.root.ensures ∙ root_total it.layout it.gone.bytes it.len it.pieces.items it.tree.leaves v
    ∙ ap (λ (s : PiecedState). word_total s.plane.bytes) c.self.view_is
