use Rattle.std.proofs.Common.{inr, refl, subst, sym, None}
use Rattle.std.proofs.lemmas.Result.{on_err_weaker}
use Rattle.std.specs.Prelude.{All}
use Rattle.fits_image.specs.Kind.{kind_in}
use Rattle.fits_hdu.specs.State.{HasPixels}
use Rattle.fits_session.specs.Away.{IsTold}
use Rattle.fits_session.specs.Session.{IsSeen, IsSoOf}
use Rattle.fits_making.specs.Making.{Holding, IsHad}
use Rattle.fits_session.proofs.HadLemmas.{held_rect}
use Rattle.fits_session.proofs.KeptLemmas.{described_at}
use Rattle.fits_session.proofs.LoadedLemmas.{all_seen_still, had_there, idle_stays, kept_loaded, loaded_told, loads_alone, same_there, told_on}
use Rattle.fits_session.proofs.QueryLemmas.{image_is}
use Rattle.fits_session.proofs.StateLemmas.{is_at}
use Rattle.fits_session.proofs.session.Session.load_pixels.Goals as goal

pub invariant_of-self : goal.invariant_of-self
invariant_of-self g c =
    let holding : Holding = record { whole = g.H.Holder.whole; told = None } in
    let at = is_at c.self.inside.hdus.items c.deref.result.now c.args.h c.args.h c.in-Ok.i c.index_mut.result.now c.deref.ensures.value refl c.in-Ok.ensures.found c.index_mut.ensures.value in
    kept_loaded 2 holding c.self.inside.hdus.items c.self.inside.tail.items c.args.h c.in-Ok.i c.self.inside.len c.self.inside.names.numbers.items c.self.inside.names.room c.index_mut.result.now c.load_rect.new.hdu at c.self.invariant c.load_rect.ensures.loads
    c.load_rect.ensures.had

pub returns-clause-wanted : goal.returns-clause-wanted
returns-clause-wanted g c =
    let at = is_at c.self.inside.hdus.items c.deref.result.now c.args.h c.args.h c.in-Ok.i c.index_mut.result.now c.deref.ensures.value refl c.in-Ok.ensures.found c.index_mut.ensures.value in
    rw (← c.self.view_is) (on_err_weaker c.load_rect.result
    (image_is c.self.inside.hdus.items c.self.inside.tail.items c.args.h c.in-Ok.i c.index_mut.result.now (kind_in c.index_mut.result.now.header.shape c.index_mut.result.now.header.header.cards) c.self.invariant.whole at
    (described_at c.self.inside.hdus.items c.args.h c.in-Ok.i c.index_mut.result.now c.self.invariant.described at) refl)
    c.load_rect.ensures.image)

pub returns-clause-same : goal.returns-clause-same
returns-clause-same g c told all =
    let at = is_at c.self.inside.hdus.items c.deref.result.now c.args.h c.args.h c.in-Ok.i c.index_mut.result.now c.deref.ensures.value refl c.in-Ok.ensures.found c.index_mut.ensures.value in
    let own : IsTold g.H.Holder.whole told c.load_rect.new.log c.self.inside.hdus.items = rw (← c.self.view_is) at all in
    let there = told_on _ told _ c.self.inside.hdus.items c.in-Ok.i c.index_mut.result.now own at.index.within at.is in
    rw (← c.self.view_is) (same_there told c.self.inside.hdus.items c.self.inside.tail.items c.args.h c.in-Ok.i c.index_mut.result.now c.load_rect.new.hdu at c.load_rect.ensures.loads (c.load_rect.ensures.same told there))

pub returns-clause-unchanged : goal.returns-clause-unchanged
returns-clause-unchanged g c told all =
    let at = is_at c.self.inside.hdus.items c.deref.result.now c.args.h c.args.h c.in-Ok.i c.index_mut.result.now c.deref.ensures.value refl c.in-Ok.ensures.found c.index_mut.ensures.value in
    let own : IsTold g.H.Holder.whole told c.load_rect.new.log c.self.inside.hdus.items = rw (← c.self.view_is) at all in
    c.load_rect.ensures.unchanged told (told_on _ told _ c.self.inside.hdus.items c.in-Ok.i c.index_mut.result.now own at.index.within at.is)

pub returns-clause-told : goal.returns-clause-told
returns-clause-told g c told all =
    let at = is_at c.self.inside.hdus.items c.deref.result.now c.args.h c.args.h c.in-Ok.i c.index_mut.result.now c.deref.ensures.value refl c.in-Ok.ensures.found c.index_mut.ensures.value in
    let own : IsTold g.H.Holder.whole told c.load_rect.new.log c.self.inside.hdus.items = rw (← c.self.view_is) at all in
    loaded_told g.H.Holder.whole told c.load_rect.new.log c.self.inside.hdus.items c.in-Ok.i c.index_mut.result.now c.load_rect.new.hdu at.index.within at.is (λ away of was. had_there g.H.Holder.whole told c.load_rect.new.log c.index_mut.result.now c.load_rect.new.hdu away c.load_rect.ensures.loads c.load_rect.ensures.known (c.load_rect.ensures.lies told) of was) own

pub returns-clause-seen : goal.returns-clause-seen
returns-clause-seen g c all =
    let at = is_at c.self.inside.hdus.items c.deref.result.now c.args.h c.args.h c.in-Ok.i c.index_mut.result.now c.deref.ensures.value refl c.in-Ok.ensures.found c.index_mut.ensures.value in
    let own : All IsSeen c.self.inside.hdus.items = rw (← c.self.view_is) at all in
    all_seen_still c.self.inside.hdus.items c.in-Ok.i c.index_mut.result.now c.load_rect.new.hdu at.index.within at.is c.load_rect.ensures.known own

pub returns-clause-alone : goal.returns-clause-alone
returns-clause-alone g c =
    let at = is_at c.self.inside.hdus.items c.deref.result.now c.args.h c.args.h c.in-Ok.i c.index_mut.result.now c.deref.ensures.value refl c.in-Ok.ensures.found c.index_mut.ensures.value in
    rw (← c.self.view_is) (inr (loads_alone c.self.inside.hdus.items c.self.inside.tail.items c.args.h c.in-Ok.i c.index_mut.result.now c.load_rect.new.hdu at c.load_rect.ensures.loads))

pub returns-clause-idle : goal.returns-clause-idle
returns-clause-idle g c so =
    let at = is_at c.self.inside.hdus.items c.deref.result.now c.args.h c.args.h c.in-Ok.i c.index_mut.result.now c.deref.ensures.value refl c.in-Ok.ensures.found c.index_mut.ensures.value in
    rw (← c.self.view_is) (idle_stays (HasPixels c.args.lo.now c.args.hi.now) c.self.inside.hdus.items c.self.inside.tail.items c.args.h c.in-Ok.i c.index_mut.result.now c.load_rect.new.hdu at c.load_rect.ensures.idle (rw (← c.self.view_is) at so))

pub returns-clause-whole : goal.returns-clause-whole
returns-clause-whole g c whole =
    let holding : Holding = record { whole = g.H.Holder.whole; told = None } in
    let at = is_at c.self.inside.hdus.items c.deref.result.now c.args.h c.args.h c.in-Ok.i c.index_mut.result.now c.deref.ensures.value refl c.in-Ok.ensures.found c.index_mut.ensures.value in
    let was : IsHad holding c.index_mut.result.now = subst (IsHad holding) (sym at.is) (c.self.invariant.had c.in-Ok.i c.index_mut.result.now at.index.within) in
    c.load_rect.ensures.at_once (held_rect c.args.lo.now c.args.hi.now c.index_mut.result.now (was.held whole))

pub returns-clause-at_once : goal.returns-clause-at_once
returns-clause-at_once g c so =
    let at = is_at c.self.inside.hdus.items c.deref.result.now c.args.h c.args.h c.in-Ok.i c.index_mut.result.now c.deref.ensures.value refl c.in-Ok.ensures.found c.index_mut.ensures.value in
    let own : IsSoOf (HasPixels c.args.lo.now c.args.hi.now) c.args.h c.self.inside.hdus.items = rw (← c.self.view_is) at so in
    c.load_rect.ensures.at_once (own c.in-Ok.i c.index_mut.result.now at.index (sym at.is))
