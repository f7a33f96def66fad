use Rattle.std.proofs.Common.{arith, ◌∙◌, ◌+◌, ap, sym}
use Rattle.fits_pixels.proofs.LayoutLemmas.{layout_small}
use Rattle.fits_plane.specs.Rectangle.{rectangle_size}
use Rattle.fits_pieces.specs.Pieces.{PiecedState}
use Rattle.fits_pieces.proofs.ReadingLemmas.{as_many, pieces_read, unit_read}
use Rattle.fits_pieces.proofs.pieced_unit.PiecedUnit.rect.Goals as goal

-- the pixels are few
pub rectangle_len-size-requires-clause-small : goal.rectangle_len-size-requires-clause-small
rectangle_len-size-requires-clause-small c =
    let it = c.self.inside in
    let fits = c.self.invariant.are.cut.fits in
    omega (arith, c.requires.all, ap (λ (s : PiecedState). s.plane.layout.pixels) c.self.view_is, layout_small it.layout it.gone.bytes fits, fits.limit)

-- what is kept of the pieces stands
pub invariant_of-self : goal.invariant_of-self
invariant_of-self c =
    let it = c.self.inside in
    let same = c.read_rows.ensures.work.same in
    record {
      are = pieces_read it.layout it.gone.bytes it.len it.pieces.items c.read_rows.new.pieces.items it.tree.leaves same c.self.invariant.are;
      marks = c.self.invariant.marks ∙ sym (as_many it.pieces.items c.read_rows.new.pieces.items same);
    }

-- and so does the unit
pub returns-clause-work : goal.returns-clause-work
returns-clause-work c =
    let it = c.self.inside in
    let size = rectangle_size c.args.lo.now c.args.hi.now in
    unit_read it.layout it.gone.bytes size it.scans.total it.tree.joins it.pieces.items c.read_rows.new.pieces.items c.read_rows.ensures.work
    ∙ ap (λ (s : PiecedState). record s { plane = record s.plane { reads = s.plane.reads + size } }) c.self.view_is
