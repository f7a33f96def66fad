use Rattle.std.proofs.Common.{◌+◌, ◌-◌, ◌/◌, subst, sym}
use Rattle.fits_pixels.specs.Pixels.{IsWidth}
use Rattle.fits_pieces.specs.Blocks.{AreMarked, PieceState}
use Rattle.fits_pieces.proofs.BlocksLemmas.{leaves_painted}
use Rattle.fits_pieces.proofs.blocks.Blocks.paint_run.Goals as goal

-- the leaves of the blocks that are marked may be wrong
pub invariant_of-self : goal.invariant_of-self
invariant_of-self c =
    let it = c.self.inside in
    let a = c.args in
    let width : IsWidth it.layout.width = subst (λ (s : PieceState). IsWidth s.layout.width) (sym c.self.view_is) c.requires.takes.width in
    leaves_painted it.layout it.store.bytes c.paint_run.new.self.bytes it.tree.leaves it.stale.items c.mark.new.marks.items a.start a.count _ width c.requires.some c.self.invariant c.paint_run.ensures.written
    (subst (λ per. AreMarked (a.start / per) ((a.start + a.count - 1) / per + 1) it.stale.items c.mark.new.marks.items) c.pixels_per_block-per.ensures c.mark.ensures)
