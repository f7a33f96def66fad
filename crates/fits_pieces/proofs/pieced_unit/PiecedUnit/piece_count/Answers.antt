use Rattle.std.proofs.Common.{rules, ◌≡◌, ◌∙◌, ap, length, sym}
use Rattle.fits_pieces.specs.Piece.{pieces_in}
use Rattle.fits_pieces.specs.Pieces.{PiecedState}
use Rattle.fits_pieces.proofs.PiecesLemmas.{length-with}
use Rattle.fits_pieces.proofs.pieced_unit.PiecedUnit.piece_count.Goals as goal

pub returns-clause-count : goal.returns-clause-count
returns-clause-count c =
    let it = c.self.inside in
    let v = c.self.invariant.are in
    let many : c.len.result ≡ length it.pieces.items = search rules in
    many ∙ v.cut.count ∙ ap pieces_in (sym (length-with it.layout it.gone.bytes it.pieces.items v.cut)) ∙ ap (λ (s : PiecedState). pieces_in (length s.plane.bytes)) c.self.view_is
