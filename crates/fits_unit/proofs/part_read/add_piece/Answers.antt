use Rattle.std.proofs.Common.{◌∙◌, ◌+◌, ◌*◌, ◌++◌, ap, refl, subst, sym}
use Rattle.fits_pieces.specs.Piece.{piece_of}
use Rattle.fits_unit.specs.Part.{HasBytes}
use Rattle.fits_unit.proofs.PartReadLemmas.{length-piece}
use Rattle.fits_unit.proofs.part_read.add_piece.Goals as goal

-- a piece in memory is what it is
pub returns-in-Ok-clause-are : goal.returns-in-Ok-clause-are
returns-in-Ok-clause-are g c =
    let unit = c.args.unit.now in
    let own = piece_of unit.plane.bytes c.args.j in
    let held = sym c.if-is_held.true ∙ c.is_held.ensures.value in
    record {
      bytes = own;
      had = subst (λ b. HasBytes b (c.args.place + 46080 * c.args.j) own c.args.log.now c.args.log.now own) held (refl, refl);
      size = length-piece unit.plane.bytes c.args.j;
      added = c.in-Ok.ensures.items ∙ ap (λ t. c.args.bytes.now.items ++ t) c.piece_bytes.ensures;
    }
