use Rattle.std.proofs.Common.{arith, refl, sym}
use Rattle.fits_session.specs.Session.{IsSeen, IsSoOf}
use Rattle.fits_session.proofs.QueryLemmas.{verdicts_there}
use Rattle.fits_session.proofs.StateLemmas.{is_at, file_within, part_there}
use Rattle.fits_session.proofs.session.Session.known_verdicts.Goals as goal

-- its data unit is known
pub verdicts-requires-clause-known : goal.verdicts-requires-clause-known
verdicts-requires-clause-known g c =
    let at = (is_at c.self.inside.hdus.items c.deref.result.now c.args.h c.args.h c.in_ok-i.i c.index-hdu.result.now c.deref.ensures.value refl c.in_ok-i.ensures.found c.index-hdu.ensures) in
    let own : IsSoOf IsSeen c.args.h c.self.inside.hdus.items = rw (← c.self.view_is) at c.requires in
    own c.in_ok-i.i c.index-hdu.result.now at.index (sym at.is)

pub verdicts-requires-clause-small : goal.verdicts-requires-clause-small
verdicts-requires-clause-small g c =
    let part = part_there c.self.inside.hdus.items c.self.inside.tail.items c.args.h c.in_ok-i.i c.index-hdu.result.now
    (is_at c.self.inside.hdus.items c.deref.result.now c.args.h c.args.h c.in_ok-i.i c.index-hdu.result.now c.deref.ensures.value refl c.in_ok-i.ensures.found c.index-hdu.ensures) in
    omega (arith, part, (file_within c.self.inside.hdus.items c.self.inside.tail.items c.self.invariant.whole).0)

pub returns : goal.returns
returns g c =
    rw (← c.self.view_is) (verdicts_there c.self.inside.hdus.items c.self.inside.tail.items c.args.h c.in_ok-i.i c.index-hdu.result.now c.verdicts.result
    (is_at c.self.inside.hdus.items c.deref.result.now c.args.h c.args.h c.in_ok-i.i c.index-hdu.result.now c.deref.ensures.value refl c.in_ok-i.ensures.found c.index-hdu.ensures)
    c.verdicts.ensures)
