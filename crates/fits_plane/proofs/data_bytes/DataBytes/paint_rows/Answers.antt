use Rattle.std.proofs.Common.{◌≡◌, ◌∙◌, ap, arith, subst, sym}
use Rattle.std.proofs.lemmas.List.{with_items_is}
use Rattle.fits_plane.specs.Painting.{number_of}
use Rattle.fits_plane.specs.Rectangle.{IsWritten}
use Rattle.fits_plane.proofs.data_bytes.DataBytes.paint_rows.Goals as goal

-- the bytes are the painted ones
pub returns-clause-written : goal.returns-clause-written
returns-clause-written c =
    let it = c.args.painting.now in
    let w = c.args.layout.width in
    let old : c.as_mut_slice.result.now ≡ c.args.self.now.bytes = c.as_mut_slice.ensures.value ∙ ap (λ s. s.bytes) c.self.view_is in
    let new = with_items_is c.self.inside.bytes c.paint_rows.new.bytes (omega (arith, c.paint_rows.ensures.long, c.as_mut_slice.ensures.len)) in
    subst (IsWritten w it.axes.now it.lo.now it.hi.now (number_of it) c.args.self.now.bytes) (sym new)
    (subst (λ xs. IsWritten w it.axes.now it.lo.now it.hi.now (number_of it) xs c.paint_rows.new.bytes) old c.paint_rows.ensures)
