use Rattle.std.proofs.Common.{ap, ◌∙◌, refl}
use Rattle.std.proofs.lemmas.Result.{err_from_is_err_and}
use Rattle.fits_header.specs.Places.{keyword_places}
use Rattle.fits_header.specs.State.{HeaderState}
use Rattle.fits_session.proofs.QueryLemmas.{places_there, no_places}
use Rattle.fits_session.proofs.StateLemmas.{is_at}
use Rattle.fits_session.proofs.session.Session.positions.Goals as goal

pub returns-in_err-places-clause-err : goal.returns-in_err-places-clause-err
returns-in_err-places-clause-err g c =
    let p = err_from_is_err_and c.from_residual-in_err-places.result c.from_residual-in_err-places.ensures.1 in
    rw (p.1, p.2, ← c.self.view_is) (no_places c.self.inside.hdus.items c.self.inside.tail.items c.args.h c.in_ok-i.i c.index-hdu.result.now c.args.name.now
    (is_at c.self.inside.hdus.items c.deref.result.now c.args.h c.args.h c.in_ok-i.i c.index-hdu.result.now c.deref.ensures.value refl c.in_ok-i.ensures.found c.index-hdu.ensures)
    (rw (← c.header.ensures) c.in_err-places.ensures.some))

pub returns-clause-ok : goal.returns-clause-ok
returns-clause-ok g c =
    rw (← c.self.view_is) (places_there c.self.inside.hdus.items c.self.inside.tail.items c.args.h c.in_ok-i.i c.index-hdu.result.now c.args.name.now c.in_ok-places.places.items
    (is_at c.self.inside.hdus.items c.deref.result.now c.args.h c.args.h c.in_ok-i.i c.index-hdu.result.now c.deref.ensures.value refl c.in_ok-i.ensures.found c.index-hdu.ensures)
    (c.in_ok-places.ensures.places ∙ ap (λ (h : HeaderState). keyword_places h.header.cards c.args.name.now) c.header.ensures))
