use Rattle.std.proofs.Common.{◌∙◌, ap, subst, sym}
use Rattle.fits_pieces.specs.Blocks.{IsFresh, PieceState}
use Rattle.fits_pieces.specs.Piece.{bytes_leaf}
use Rattle.fits_pieces.proofs.BlocksLemmas.{fresh_leaf}
use Rattle.fits_pieces.proofs.blocks.Blocks.leaf.Goals as goal

-- the leaves are joined to it
pub returns : goal.returns
returns c =
    let it = c.self.inside in
    c.root.ensures
    ∙ fresh_leaf it.layout it.store.bytes it.tree.leaves it.stale.items c.self.invariant (subst (λ (s : PieceState). IsFresh s.stale) (sym c.self.view_is) c.requires) c.are_bytes.ensures
    ∙ ap (λ (s : PieceState). bytes_leaf s.layout s.bytes) c.self.view_is
