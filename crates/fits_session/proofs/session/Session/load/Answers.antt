use Rattle.std.proofs.Common.{ap, inr, refl, subst, sym, None}
use Rattle.std.specs.Prelude.{All}
use Rattle.fits_hdu.specs.State.{HduState}
use Rattle.fits_session.specs.Away.{in_file, IsTold, LoadWork}
use Rattle.fits_session.specs.Session.{file_of, state_of, IsHeld, IsSeen, IsSoOf}
use Rattle.fits_making.specs.Making.{Holding, IsHad}
use Rattle.fits_session.proofs.LoadedLemmas.{all_seen_after, held_seen, idle_stays, kept_loaded, load_work, loaded_had, loaded_parts, loaded_same, loaded_told, loads_alone, told_on}
use Rattle.fits_session.proofs.StateLemmas.{is_at, reads_of-same, works_nowhere, works_there}
use Rattle.fits_session.proofs.session.Session.load.Goals as goal

pub returns-in_default-clause-work : goal.returns-in_default-clause-work
returns-in_default-clause-work g c = rw (← c.self.view_is) (works_nowhere c.self.inside.hdus.items c.args.h _ (rw c.deref.ensures.value at c.in_default.ensures.none))

pub invariant_of-self : goal.invariant_of-self
invariant_of-self g c =
    let holding : Holding = record { whole = g.H.Holder.whole; told = None } in
    let at = is_at c.self.inside.hdus.items c.deref.result.now c.args.h c.args.h c.in-Ok.i c.index_mut.result.now c.deref.ensures.value refl c.in-Ok.ensures.found c.index_mut.ensures.value in
    let was : IsHad holding c.index_mut.result.now = subst (IsHad holding) (sym at.is) (c.self.invariant.had c.in-Ok.i c.index_mut.result.now at.index.within) in
    kept_loaded 1 holding c.self.inside.hdus.items c.self.inside.tail.items c.args.h c.in-Ok.i c.self.inside.len c.self.inside.names.numbers.items c.self.inside.names.room c.index_mut.result.now c.load.new.hdu at c.self.invariant c.load.ensures.loads
    (loaded_had c.load.result holding c.index_mut.result.now c.load.new.hdu c.load.ensures.held c.load.ensures.err was)

pub returns-clause-same : goal.returns-clause-same
returns-clause-same g c told all =
    let at = is_at c.self.inside.hdus.items c.deref.result.now c.args.h c.args.h c.in-Ok.i c.index_mut.result.now c.deref.ensures.value refl c.in-Ok.ensures.found c.index_mut.ensures.value in
    let own : IsTold g.H.Holder.whole told c.load.new.log c.self.inside.hdus.items = rw (← c.self.view_is) at all in
    let there = told_on _ told _ c.self.inside.hdus.items c.in-Ok.i c.index_mut.result.now own at.index.within at.is in
    rw (← c.self.view_is) (loaded_same c.load.result told c.self.inside.hdus.items c.self.inside.tail.items c.args.h c.in-Ok.i c.index_mut.result.now c.load.new.hdu at c.load.ensures.loads (loaded_parts c.load.result told c.index_mut.result.now c.load.new.hdu c.load.ensures.held (c.load.ensures.same told there)))

pub returns-clause-unchanged : goal.returns-clause-unchanged
returns-clause-unchanged g c told all =
    let at = is_at c.self.inside.hdus.items c.deref.result.now c.args.h c.args.h c.in-Ok.i c.index_mut.result.now c.deref.ensures.value refl c.in-Ok.ensures.found c.index_mut.ensures.value in
    let own : IsTold g.H.Holder.whole told c.load.new.log c.self.inside.hdus.items = rw (← c.self.view_is) at all in
    c.load.ensures.unchanged told (told_on _ told _ c.self.inside.hdus.items c.in-Ok.i c.index_mut.result.now own at.index.within at.is)

pub returns-clause-told : goal.returns-clause-told
returns-clause-told g c told all =
    let at = is_at c.self.inside.hdus.items c.deref.result.now c.args.h c.args.h c.in-Ok.i c.index_mut.result.now c.deref.ensures.value refl c.in-Ok.ensures.found c.index_mut.ensures.value in
    let own : IsTold g.H.Holder.whole told c.load.new.log c.self.inside.hdus.items = rw (← c.self.view_is) at all in
    loaded_told g.H.Holder.whole told c.load.new.log c.self.inside.hdus.items c.in-Ok.i c.index_mut.result.now c.load.new.hdu at.index.within at.is (λ away of was. loaded_had c.load.result (in_file told) c.index_mut.result.now c.load.new.hdu c.load.ensures.held c.load.ensures.err was) own

pub returns-clause-seen : goal.returns-clause-seen
returns-clause-seen g c all =
    let at = is_at c.self.inside.hdus.items c.deref.result.now c.args.h c.args.h c.in-Ok.i c.index_mut.result.now c.deref.ensures.value refl c.in-Ok.ensures.found c.index_mut.ensures.value in
    let own : All IsSeen c.self.inside.hdus.items = rw (← c.self.view_is) at all in
    all_seen_after c.load.result c.self.inside.hdus.items c.in-Ok.i c.index_mut.result.now c.load.new.hdu at.index.within at.is (held_seen c.load.result c.load.new.hdu c.load.ensures.held) c.load.ensures.err own

pub returns-clause-alone : goal.returns-clause-alone
returns-clause-alone g c =
    let at = is_at c.self.inside.hdus.items c.deref.result.now c.args.h c.args.h c.in-Ok.i c.index_mut.result.now c.deref.ensures.value refl c.in-Ok.ensures.found c.index_mut.ensures.value in
    rw (← c.self.view_is) (inr (loads_alone c.self.inside.hdus.items c.self.inside.tail.items c.args.h c.in-Ok.i c.index_mut.result.now c.load.new.hdu at c.load.ensures.loads))

pub returns-clause-idle : goal.returns-clause-idle
returns-clause-idle g c so =
    let at = is_at c.self.inside.hdus.items c.deref.result.now c.args.h c.args.h c.in-Ok.i c.index_mut.result.now c.deref.ensures.value refl c.in-Ok.ensures.found c.index_mut.ensures.value in
    rw (← c.self.view_is) (idle_stays IsHeld c.self.inside.hdus.items c.self.inside.tail.items c.args.h c.in-Ok.i c.index_mut.result.now c.load.new.hdu at c.load.ensures.idle (rw (← c.self.view_is) at so))

pub returns-clause-reads : goal.returns-clause-reads
returns-clause-reads g c =
    let at = is_at c.self.inside.hdus.items c.deref.result.now c.args.h c.args.h c.in-Ok.i c.index_mut.result.now c.deref.ensures.value refl c.in-Ok.ensures.found c.index_mut.ensures.value in
    rw (← c.self.view_is) (reads_of-same c.self.inside.hdus.items c.in-Ok.i c.index_mut.result.now c.load.new.hdu at.index.within at.is (ap (λ (one : HduState). one.header.reads) c.load.ensures.loads.rest))

pub returns-clause-work : goal.returns-clause-work
returns-clause-work g c =
    let at = is_at c.self.inside.hdus.items c.deref.result.now c.args.h c.args.h c.in-Ok.i c.index_mut.result.now c.deref.ensures.value refl c.in-Ok.ensures.found c.index_mut.ensures.value in
    let work = load_work c.self.inside.hdus.items c.self.inside.tail.items c.args.h c.in-Ok.i c.index_mut.result.now c.load.new.hdu at c.load.ensures.loads in
    rw (← c.self.view_is) (works_there c.self.inside.hdus.items c.args.h c.in-Ok.i (LoadWork (file_of (state_of c.self.inside.hdus.items c.self.inside.tail.items)) c.args.h) c.index_mut.result.now c.load.new.hdu at work)

pub returns-clause-whole : goal.returns-clause-whole
returns-clause-whole g c whole =
    let holding : Holding = record { whole = g.H.Holder.whole; told = None } in
    let at = is_at c.self.inside.hdus.items c.deref.result.now c.args.h c.args.h c.in-Ok.i c.index_mut.result.now c.deref.ensures.value refl c.in-Ok.ensures.found c.index_mut.ensures.value in
    let was : IsHad holding c.index_mut.result.now = subst (IsHad holding) (sym at.is) (c.self.invariant.had c.in-Ok.i c.index_mut.result.now at.index.within) in
    c.load.ensures.at_once (was.held whole)

pub returns-clause-at_once : goal.returns-clause-at_once
returns-clause-at_once g c so =
    let at = is_at c.self.inside.hdus.items c.deref.result.now c.args.h c.args.h c.in-Ok.i c.index_mut.result.now c.deref.ensures.value refl c.in-Ok.ensures.found c.index_mut.ensures.value in
    let own : IsSoOf IsHeld c.args.h c.self.inside.hdus.items = rw (← c.self.view_is) at so in
    c.load.ensures.at_once (own c.in-Ok.i c.index_mut.result.now at.index (sym at.is))
