use Rattle.std.proofs.Common.{refl}
use Rattle.fits_session.proofs.QueryLemmas.{shape_there}
use Rattle.fits_session.proofs.StateLemmas.{is_at}
use Rattle.fits_session.proofs.session.Session.shape.Goals as goal

pub returns-clause-ok : goal.returns-clause-ok
returns-clause-ok g c =
    rw (← c.self.view_is) (shape_there c.self.inside.hdus.items c.self.inside.tail.items c.args.h c.in_ok-i.i c.index-hdu.result.now c.shape.result.now c.self.invariant.whole
    (is_at c.self.inside.hdus.items c.deref.result.now c.args.h c.args.h c.in_ok-i.i c.index-hdu.result.now c.deref.ensures.value refl c.in_ok-i.ensures.found c.index-hdu.ensures)
    c.shape.ensures.described c.shape.ensures.value)
