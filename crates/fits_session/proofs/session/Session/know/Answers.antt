use Rattle.std.proofs.Common.{ap, set, inr, refl, subst, sym, None}
use Rattle.std.specs.Prelude.{All}
use Rattle.fits_hdu.specs.State.{HduState}
use Rattle.fits_session.specs.Away.{IsTold, LoadWork}
use Rattle.fits_session.specs.Session.{file_of, state_of, IsSeen, IsSoOf}
use Rattle.fits_making.specs.Making.{Holding, IsHad}
use Rattle.fits_session.proofs.LoadedLemmas.{all_seen_still, at_set, counted_stats, err_or, had_there, idle_seen, idle_stays, kept_loaded, load_work, loaded_same, loaded_told, loads_alone, so_nowhere, so_there, told_on}
use Rattle.fits_session.proofs.HadLemmas.{seen_held}
use Rattle.fits_session.proofs.StateLemmas.{hdu_of-there, is_at, reads_of-same, works_nowhere, works_there}
use Rattle.fits_session.proofs.session.Session.know.Goals as goal

pub returns-in_default-clause-work : goal.returns-in_default-clause-work
returns-in_default-clause-work g c = rw (← c.self.view_is) (works_nowhere c.self.inside.hdus.items c.args.h _ (rw c.deref.ensures.value at c.in_default.ensures.none))

pub invariant_of-self : goal.invariant_of-self
invariant_of-self g c =
    let holding : Holding = record { whole = g.H.Holder.whole; told = None } in
    let at = is_at c.self.inside.hdus.items c.deref.result.now c.args.h c.args.h c.in-Ok.i c.index_mut.result.now c.deref.ensures.value refl c.in-Ok.ensures.found c.index_mut.ensures.value in
    let was : IsHad holding c.index_mut.result.now = subst (IsHad holding) (sym at.is) (c.self.invariant.had c.in-Ok.i c.index_mut.result.now at.index.within) in
    kept_loaded 1 holding c.self.inside.hdus.items c.self.inside.tail.items c.args.h c.in-Ok.i c.self.inside.len c.self.inside.names.numbers.items c.self.inside.names.room c.index_mut.result.now c.know.new.hdu at c.self.invariant c.know.ensures.loads
    c.know.ensures.had

pub returns-clause-same : goal.returns-clause-same
returns-clause-same g c told all =
    let at = is_at c.self.inside.hdus.items c.deref.result.now c.args.h c.args.h c.in-Ok.i c.index_mut.result.now c.deref.ensures.value refl c.in-Ok.ensures.found c.index_mut.ensures.value in
    let own : IsTold g.H.Holder.whole told c.know.new.log c.self.inside.hdus.items = rw (← c.self.view_is) at all in
    let there = told_on _ told _ c.self.inside.hdus.items c.in-Ok.i c.index_mut.result.now own at.index.within at.is in
    rw (← c.self.view_is) (loaded_same c.know.result told c.self.inside.hdus.items c.self.inside.tail.items c.args.h c.in-Ok.i c.index_mut.result.now c.know.new.hdu at c.know.ensures.loads (c.know.ensures.same told there))

pub returns-clause-unchanged : goal.returns-clause-unchanged
returns-clause-unchanged g c told all =
    let at = is_at c.self.inside.hdus.items c.deref.result.now c.args.h c.args.h c.in-Ok.i c.index_mut.result.now c.deref.ensures.value refl c.in-Ok.ensures.found c.index_mut.ensures.value in
    let own : IsTold g.H.Holder.whole told c.know.new.log c.self.inside.hdus.items = rw (← c.self.view_is) at all in
    c.know.ensures.unchanged told (told_on _ told _ c.self.inside.hdus.items c.in-Ok.i c.index_mut.result.now own at.index.within at.is)

pub returns-clause-told : goal.returns-clause-told
returns-clause-told g c told all =
    let at = is_at c.self.inside.hdus.items c.deref.result.now c.args.h c.args.h c.in-Ok.i c.index_mut.result.now c.deref.ensures.value refl c.in-Ok.ensures.found c.index_mut.ensures.value in
    let own : IsTold g.H.Holder.whole told c.know.new.log c.self.inside.hdus.items = rw (← c.self.view_is) at all in
    loaded_told g.H.Holder.whole told c.know.new.log c.self.inside.hdus.items c.in-Ok.i c.index_mut.result.now c.know.new.hdu at.index.within at.is (λ away of was. had_there g.H.Holder.whole told c.know.new.log c.index_mut.result.now c.know.new.hdu away c.know.ensures.loads (idle_seen c.index_mut.result.now c.know.new.hdu c.know.ensures.idle) (c.know.ensures.lies told) of was) own

pub returns-clause-seen : goal.returns-clause-seen
returns-clause-seen g c all =
    let at = is_at c.self.inside.hdus.items c.deref.result.now c.args.h c.args.h c.in-Ok.i c.index_mut.result.now c.deref.ensures.value refl c.in-Ok.ensures.found c.index_mut.ensures.value in
    let own : All IsSeen c.self.inside.hdus.items = rw (← c.self.view_is) at all in
    all_seen_still c.self.inside.hdus.items c.in-Ok.i c.index_mut.result.now c.know.new.hdu at.index.within at.is (idle_seen c.index_mut.result.now c.know.new.hdu c.know.ensures.idle) own

pub returns-clause-alone : goal.returns-clause-alone
returns-clause-alone g c =
    let at = is_at c.self.inside.hdus.items c.deref.result.now c.args.h c.args.h c.in-Ok.i c.index_mut.result.now c.deref.ensures.value refl c.in-Ok.ensures.found c.index_mut.ensures.value in
    rw (← c.self.view_is) (inr (loads_alone c.self.inside.hdus.items c.self.inside.tail.items c.args.h c.in-Ok.i c.index_mut.result.now c.know.new.hdu at c.know.ensures.loads))

pub returns-clause-idle : goal.returns-clause-idle
returns-clause-idle g c so =
    let at = is_at c.self.inside.hdus.items c.deref.result.now c.args.h c.args.h c.in-Ok.i c.index_mut.result.now c.deref.ensures.value refl c.in-Ok.ensures.found c.index_mut.ensures.value in
    rw (← c.self.view_is) (idle_stays IsSeen c.self.inside.hdus.items c.self.inside.tail.items c.args.h c.in-Ok.i c.index_mut.result.now c.know.new.hdu at c.know.ensures.idle (rw (← c.self.view_is) at so))

pub returns-clause-reads : goal.returns-clause-reads
returns-clause-reads g c =
    let at = is_at c.self.inside.hdus.items c.deref.result.now c.args.h c.args.h c.in-Ok.i c.index_mut.result.now c.deref.ensures.value refl c.in-Ok.ensures.found c.index_mut.ensures.value in
    rw (← c.self.view_is) (reads_of-same c.self.inside.hdus.items c.in-Ok.i c.index_mut.result.now c.know.new.hdu at.index.within at.is (ap (λ (one : HduState). one.header.reads) c.know.ensures.loads.rest))

pub returns-clause-work : goal.returns-clause-work
returns-clause-work g c =
    let at = is_at c.self.inside.hdus.items c.deref.result.now c.args.h c.args.h c.in-Ok.i c.index_mut.result.now c.deref.ensures.value refl c.in-Ok.ensures.found c.index_mut.ensures.value in
    let work = load_work c.self.inside.hdus.items c.self.inside.tail.items c.args.h c.in-Ok.i c.index_mut.result.now c.know.new.hdu at c.know.ensures.loads in
    rw (← c.self.view_is) (works_there c.self.inside.hdus.items c.args.h c.in-Ok.i (LoadWork (file_of (state_of c.self.inside.hdus.items c.self.inside.tail.items)) c.args.h) c.index_mut.result.now c.know.new.hdu at work)

pub returns-clause-whole : goal.returns-clause-whole
returns-clause-whole g c whole =
    let holding : Holding = record { whole = g.H.Holder.whole; told = None } in
    let at = is_at c.self.inside.hdus.items c.deref.result.now c.args.h c.args.h c.in-Ok.i c.index_mut.result.now c.deref.ensures.value refl c.in-Ok.ensures.found c.index_mut.ensures.value in
    let was : IsHad holding c.index_mut.result.now = subst (IsHad holding) (sym at.is) (c.self.invariant.had c.in-Ok.i c.index_mut.result.now at.index.within) in
    c.know.ensures.at_once (seen_held c.index_mut.result.now (was.held whole))

pub returns-clause-at_once : goal.returns-clause-at_once
returns-clause-at_once g c so =
    let at = is_at c.self.inside.hdus.items c.deref.result.now c.args.h c.args.h c.in-Ok.i c.index_mut.result.now c.deref.ensures.value refl c.in-Ok.ensures.found c.index_mut.ensures.value in
    let own : IsSoOf IsSeen c.args.h c.self.inside.hdus.items = rw (← c.self.view_is) at so in
    c.know.ensures.at_once (own c.in-Ok.i c.index_mut.result.now at.index (sym at.is))

-- the HDU is there
pub returns-clause-wanted : goal.returns-clause-wanted
returns-clause-wanted g c =
    let at = is_at c.self.inside.hdus.items c.deref.result.now c.args.h c.args.h c.in-Ok.i c.index_mut.result.now c.deref.ensures.value refl c.in-Ok.ensures.found c.index_mut.ensures.value in
    rw (← c.self.view_is, hdu_of-there c.self.inside.hdus.items c.self.inside.tail.items c.args.h c.in-Ok.i c.index_mut.result.now at) (err_or c.know.result refl)

-- where it was unread its statistics are those of what passed by
pub returns-clause-fresh : goal.returns-clause-fresh
returns-clause-fresh g c = λ unread.
    let at = is_at c.self.inside.hdus.items c.deref.result.now c.args.h c.args.h c.in-Ok.i c.index_mut.result.now c.deref.ensures.value refl c.in-Ok.ensures.found c.index_mut.ensures.value in
    let never : IsSeen c.index_mut.result.now → ⊥ = λ seen. unread (rw (← c.self.view_is) (so_there IsSeen c.self.inside.hdus.items c.args.h c.in-Ok.i c.index_mut.result.now at seen)) in
    counted_stats c.know.result (set c.self.inside.hdus.items c.in-Ok.i c.know.new.hdu) c.args.h c.in-Ok.i c.know.new.hdu (at_set c.self.inside.hdus.items c.args.h c.in-Ok.i c.index_mut.result.now c.know.new.hdu at) (c.know.ensures.fresh never)

-- the HDU isn't there
pub returns-in_default-clause-fresh : goal.returns-in_default-clause-fresh
returns-in_default-clause-fresh g c = λ unread. absurd (unread (rw (← c.self.view_is) (so_nowhere IsSeen c.self.inside.hdus.items c.args.h (rw c.deref.ensures.value at c.in_default.ensures.none))))
