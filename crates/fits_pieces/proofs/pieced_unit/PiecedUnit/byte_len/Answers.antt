use Rattle.std.proofs.Common.{length, sym, ◌∙◌, ap}
use Rattle.fits_pieces.specs.Pieces.{PiecedState}
use Rattle.fits_pieces.proofs.PiecesLemmas.{length-with}
use Rattle.fits_pieces.proofs.pieced_unit.PiecedUnit.byte_len.Goals as goal

pub returns-clause-value : goal.returns-clause-value
returns-clause-value c =
    let it = c.self.inside in
    let v = c.self.invariant.are in
    v.len_is ∙ sym (length-with it.layout it.gone.bytes it.pieces.items v.cut) ∙ ap (λ (s : PiecedState). length s.plane.bytes) c.self.view_is

pub returns-clause-passed : goal.returns-clause-passed
returns-clause-passed c =
    let it = c.self.inside in
    let v = c.self.invariant.are in
    ap (λ (s : PiecedState). length s.passed) (sym c.self.view_is) ∙ sym (length-with it.layout it.gone.bytes it.pieces.items v.cut) ∙ ap (λ (s : PiecedState). length s.plane.bytes) c.self.view_is
