use Rattle.std.proofs.Common.{◌≡◌, ◌∙◌, None, ap, false, true, get_or, subst, sym}
use Rattle.std.specs.Prelude.{is_some, map, OnErr, OnOk}
use Rattle.std.proofs.lemmas.List.{get_or_default}
use Rattle.fits_stream.specs.Stream.{Prints, PrintsFront}
use Rattle.fits_pieces.specs.Piece.{piece_of}
use Rattle.fits_pieces.specs.Pieces.{PiecedState}
use Rattle.fits_pieces.proofs.ReadingLemmas.{held_piece, index_of}
use Rattle.fits_pieces.proofs.pieced_unit.PiecedUnit.emit_piece.Goals as goal

-- the piece is written
pub returns-clause-ok : goal.returns-clause-ok
returns-clause-ok g c =
    let it = c.self.inside in
    let j = c.args.index in
    let held : get_or (map is_some it.pieces.items) j false ≡ true = subst (λ (s : PiecedState). get_or s.held j false ≡ true) (sym c.self.view_is) c.requires.held in
    let p = held_piece it.layout it.gone.bytes it.pieces.items j c.self.invariant.are.cut held in
    let is = c.index.ensures ∙ get_or_default it.pieces.items j _ None (index_of it.pieces.items j p.0 p.1) ∙ p.1 in
    subst (λ xs. OnOk c.emit.result (Prints xs (g.W.Sink.state c.args.sink.now) (g.W.Sink.state c.emit.new.sink))) (p.2 ∙ ap (λ (s : PiecedState). piece_of s.plane.bytes j) c.self.view_is) (c.emit.ensures.ok p.0 is)

-- or a prefix of it
pub returns-clause-err : goal.returns-clause-err
returns-clause-err g c =
    let it = c.self.inside in
    let j = c.args.index in
    let held : get_or (map is_some it.pieces.items) j false ≡ true = subst (λ (s : PiecedState). get_or s.held j false ≡ true) (sym c.self.view_is) c.requires.held in
    let p = held_piece it.layout it.gone.bytes it.pieces.items j c.self.invariant.are.cut held in
    let is = c.index.ensures ∙ get_or_default it.pieces.items j _ None (index_of it.pieces.items j p.0 p.1) ∙ p.1 in
    subst (λ xs. OnErr c.emit.result (PrintsFront xs (g.W.Sink.state c.args.sink.now) (g.W.Sink.state c.emit.new.sink))) (p.2 ∙ ap (λ (s : PiecedState). piece_of s.plane.bytes j) c.self.view_is) (c.emit.ensures.err p.0 is)
