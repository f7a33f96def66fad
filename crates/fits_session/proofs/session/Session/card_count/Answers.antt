use Rattle.std.proofs.Common.{refl}
use Rattle.fits_session.proofs.QueryLemmas.{count_there}
use Rattle.fits_session.proofs.StateLemmas.{is_at}
use Rattle.fits_session.proofs.session.Session.card_count.Goals as goal

pub returns-clause-value : goal.returns-clause-value
returns-clause-value g c =
    rw (← c.self.view_is) (count_there c.self.inside.hdus.items c.self.inside.tail.items c.args.h c.in_ok-i.i c.card_count.result c.index-hdu.result.now
    (is_at c.self.inside.hdus.items c.deref.result.now c.args.h c.args.h c.in_ok-i.i c.index-hdu.result.now c.deref.ensures.value refl c.in_ok-i.ensures.found c.index-hdu.ensures)
    c.card_count.ensures.value)
