use Rattle.std.proofs.Common.{arith, ◌<◌, ◌∙◌, ap, length, subst, sym}
use Rattle.std.specs.Prelude.{is_some, map}
use Rattle.std.proofs.lemmas.List.{length-map}
use Rattle.fits_sum.specs.Words.{word_total}
use Rattle.fits_pieces.specs.Piece.{piece_of}
use Rattle.fits_pieces.specs.Pieces.{PiecedState}
use Rattle.fits_pieces.proofs.PiecesLemmas.{piece_of-with}
use Rattle.fits_pieces.proofs.pieced_unit.PiecedUnit.piece_total.Goals as goal

-- it is kept, whether the piece is in memory or not
pub returns : goal.returns
returns c =
    let it = c.self.inside in
    let v = c.self.invariant.are in
    let j = c.args.index in
    let room : j < length (map is_some it.pieces.items) = subst (λ (s : PiecedState). j < length s.held) (sym c.self.view_is) c.requires in
    let many = length-map it.pieces.items is_some in
    ap (λ z. z.second.total) c.leaf.ensures ∙ ap (λ z. z.second.total) (v.right j (omega (arith, room, many, v.whole, v.cut.count)))
    ∙ ap word_total (sym (piece_of-with it.layout it.gone.bytes it.pieces.items v.cut j (omega (arith, room, many)))) ∙ ap (λ (s : PiecedState). word_total (piece_of s.plane.bytes j)) c.self.view_is
