use Rattle.fits_hdu.specs.State.{parts_of}
use Rattle.fits_hdu.proofs.PixelLemmas.{painted-may}
use Rattle.fits_hdu.proofs.hdu.Hdu.may_paint.Goals as goal

pub returns-clause-ok : goal.returns-clause-ok
returns-clause-ok c =
    let s = c.args.self.now in
    let e = c.in_ok-paintable.ensures in
    painted-may s.header.shape (parts_of s) c.args.lo.now c.args.hi.now c.args.paint.now c.in_ok-paintable.field-0 e.kind e.within e.count e.can
