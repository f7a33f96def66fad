use Rattle.std.proofs.Common.{◌≡◌, ◌∙◌, None, ap, false, true, get_or, subst, sym}
use Rattle.std.specs.Prelude.{is_some, map}
use Rattle.std.proofs.lemmas.List.{get_or_default}
use Rattle.fits_pieces.specs.Piece.{piece_of}
use Rattle.fits_pieces.specs.Pieces.{PiecedState}
use Rattle.fits_pieces.proofs.ReadingLemmas.{held_piece, index_of}
use Rattle.fits_pieces.proofs.pieced_unit.PiecedUnit.piece_bytes.Goals as goal

-- the piece has the unit's bytes there
pub returns : goal.returns
returns c =
    let it = c.self.inside in
    let j = c.args.index in
    let held : get_or (map is_some it.pieces.items) j false ≡ true = subst (λ (s : PiecedState). get_or s.held j false ≡ true) (sym c.self.view_is) c.requires.held in
    let p = held_piece it.layout it.gone.bytes it.pieces.items j c.self.invariant.are.cut held in
    let is = c.index.ensures ∙ get_or_default it.pieces.items j _ None (index_of it.pieces.items j p.0 p.1) ∙ p.1 in
    c.bytes.ensures p.0 is ∙ p.2 ∙ ap (λ (s : PiecedState). piece_of s.plane.bytes j) c.self.view_is
