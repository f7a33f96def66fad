use Rattle.std.proofs.Common.{◌≡◌, ◌<◌, ◌∙◌, None, ap, arith, false, get_or, length, subst, sym}
use Rattle.std.specs.Prelude.{is_some, map}
use Rattle.std.proofs.lemmas.List.{get_or_default, get_or-map, length-map}
use Rattle.fits_pieces.specs.Piece.{piece_of}
use Rattle.fits_pieces.specs.Pieces.{PiecedState}
use Rattle.fits_pieces.proofs.PiecesLemmas.{away_piece}
use Rattle.fits_pieces.proofs.pieced_unit.PiecedUnit.is_held.Goals as goal

-- one that isn't is as it passed by
pub returns-clause-away : goal.returns-clause-away
returns-clause-away c = λ away.
    let it = c.self.inside in
    let j = c.args.index in
    let room : j < length (map is_some it.pieces.items) = subst (λ (s : PiecedState). j < length s.held) (sym c.self.view_is) c.requires in
    let inside : j < length it.pieces.items = omega (arith, room, length-map it.pieces.items is_some) in
    let is = c.index.ensures ∙ get_or_default it.pieces.items j _ None inside in
    let none : get_or (map is_some it.pieces.items) j false ≡ false = get_or-map is_some it.pieces.items j None false inside ∙ ap is_some (sym is) ∙ sym c.is_held.ensures ∙ away in
    ap (λ (s : PiecedState). piece_of s.plane.bytes j) (sym c.self.view_is) ∙ away_piece it.layout it.gone.bytes it.pieces.items j c.self.invariant.are.cut room none
    ∙ ap (λ (s : PiecedState). piece_of s.passed j) c.self.view_is
