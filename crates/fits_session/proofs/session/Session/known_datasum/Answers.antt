use Rattle.std.proofs.Common.{refl, sym}
use Rattle.fits_session.specs.Session.{IsSeen, IsSoOf}
use Rattle.fits_session.proofs.QueryLemmas.{datasum_there}
use Rattle.fits_session.proofs.StateLemmas.{is_at}
use Rattle.fits_session.proofs.session.Session.known_datasum.Goals as goal

-- its data unit is known
pub datasum-requires : goal.datasum-requires
datasum-requires g c =
    let at = (is_at c.self.inside.hdus.items c.deref.result.now c.args.h c.args.h c.in_ok-i.i c.index-hdu.result.now c.deref.ensures.value refl c.in_ok-i.ensures.found c.index-hdu.ensures) in
    let own : IsSoOf IsSeen c.args.h c.self.inside.hdus.items = rw (← c.self.view_is) at c.requires in
    own c.in_ok-i.i c.index-hdu.result.now at.index (sym at.is)

pub returns : goal.returns
returns g c =
    rw (← c.self.view_is) (datasum_there c.self.inside.hdus.items c.self.inside.tail.items c.args.h c.in_ok-i.i c.datasum.result c.index-hdu.result.now
    (is_at c.self.inside.hdus.items c.deref.result.now c.args.h c.args.h c.in_ok-i.i c.index-hdu.result.now c.deref.ensures.value refl c.in_ok-i.ensures.found c.index-hdu.ensures)
    c.datasum.ensures)
