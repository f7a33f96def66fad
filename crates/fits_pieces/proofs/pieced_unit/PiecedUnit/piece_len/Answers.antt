use Rattle.std.proofs.Common.{◌∙◌, ap, length, sym}
use Rattle.fits_pieces.specs.Piece.{piece_size}
use Rattle.fits_pieces.specs.Pieces.{PiecedState}
use Rattle.fits_pieces.proofs.PiecesLemmas.{length-with}
use Rattle.fits_pieces.proofs.pieced_unit.PiecedUnit.piece_len.Goals as goal

pub returns : goal.returns
returns c =
    let it = c.self.inside in
    let v = c.self.invariant.are in
    c.size_of_piece.ensures ∙ ap (λ n. piece_size n c.args.index) (v.len_is ∙ sym (length-with it.layout it.gone.bytes it.pieces.items v.cut)) ∙ ap (λ (s : PiecedState). piece_size (length s.plane.bytes) c.args.index) c.self.view_is
