use Rattle.std.proofs.Common.{◌∙◌, ap, sym}
use Rattle.fits_pieces.specs.Piece.{piece_size}
use Rattle.fits_unit.proofs.PartReadLemmas.{length-piece}
use Rattle.fits_unit.proofs.part_copy.piece_at.Goals as goal

-- as many passed by as it has
pub returns-clause-passed : goal.returns-clause-passed
returns-clause-passed c = c.piece_len.ensures ∙ ap (λ n. piece_size n c.args.j) (sym c.byte_len-len.ensures.passed) ∙ sym (length-piece c.args.unit.now.passed c.args.j)
