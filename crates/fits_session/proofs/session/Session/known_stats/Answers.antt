use Rattle.std.proofs.Common.{refl}
use Rattle.fits_session.proofs.KeptLemmas.{described_at}
use Rattle.fits_session.proofs.QueryLemmas.{stats_there}
use Rattle.fits_session.proofs.StateLemmas.{is_at}
use Rattle.fits_session.proofs.session.Session.known_stats.Goals as goal

pub returns : goal.returns
returns g c =
    let at = is_at c.self.inside.hdus.items c.deref.result.now c.args.h c.args.h c.in_ok-i.i c.index-hdu.result.now c.deref.ensures.value refl c.in_ok-i.ensures.found c.index-hdu.ensures in
    rw (c.ok_or.ensures.value, ← c.self.view_is) (stats_there c.self.inside.hdus.items c.self.inside.tail.items c.args.h c.in_ok-i.i c.index-hdu.result.now c.stats.result c.self.invariant.whole at
    (described_at c.self.inside.hdus.items c.args.h c.in_ok-i.i c.index-hdu.result.now c.self.invariant.described at) c.stats.ensures)
