use Rattle.std.proofs.Common.{refl, sym}
use Rattle.fits_session.specs.Session.{IsSeen, IsSoOf}
use Rattle.fits_session.proofs.LoadedLemmas.{not_both}
use Rattle.fits_session.proofs.StateLemmas.{is_at}
use Rattle.fits_session.proofs.session.Session.is_unread.Goals as goal

pub returns-in-Ok : goal.returns-in-Ok
returns-in-Ok g c unread seen =
    let at = is_at c.self.inside.hdus.items c.deref.result.now c.args.h c.args.h c.in-Ok.i c.index.result.now c.deref.ensures.value refl c.in-Ok.ensures.found c.index.ensures in
    let own : IsSoOf IsSeen c.args.h c.self.inside.hdus.items = rw (← c.self.view_is) at seen in
    let known = c.is_known.ensures.1 (own c.in-Ok.i c.index.result.now at.index (sym at.is)) in
    not_both c.is_known.result unread known
