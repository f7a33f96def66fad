use Rattle.fits_hdu.specs.State.{HduState, HasPixels}
use Rattle.std.specs.Prelude.{All}
use Rattle.std.proofs.Common.{set, ap, refl, sym}
use Rattle.std.proofs.lemmas.Result.{err_from_is_err_and}
use Rattle.fits_session.specs.Away.{in_file, AllLie}
use Rattle.fits_session.specs.Session.{uncounted, IsSeen, IsSoOf}
use Rattle.fits_session.proofs.HadLemmas.{kept_in}
use Rattle.fits_session.proofs.KeptLemmas.{seen_same, described_at, kept_read}
use Rattle.fits_session.proofs.QueryLemmas.{rect_asks, rect_fails, rect_ok}
use Rattle.fits_session.proofs.StateLemmas.{absences_of-same, is_at}
use Rattle.fits_session.proofs.session.Session.held_rect.Goals as goal

-- its pixels are in memory
pub rect-requires : goal.rect-requires
rect-requires g c =
    let at = is_at c.self.inside.hdus.items c.deref.result.now c.args.h c.args.h c.in_ok-i.i c.index_mut-hdu.result.now c.deref.ensures.value refl c.in_ok-i.ensures.found c.index_mut-hdu.ensures.value in
    let own : IsSoOf (HasPixels c.args.lo.now c.args.hi.now) c.args.h c.self.inside.hdus.items = rw (← c.self.view_is) at c.requires in
    own c.in_ok-i.i c.index_mut-hdu.result.now at.index (sym at.is)

pub returns-in_err-values-clause-err : goal.returns-in_err-values-clause-err
returns-in_err-values-clause-err g c =
    let at = is_at c.self.inside.hdus.items c.deref.result.now c.args.h c.args.h c.in_ok-i.i c.index_mut-hdu.result.now c.deref.ensures.value refl c.in_ok-i.ensures.found c.index_mut-hdu.ensures.value in
    let p = err_from_is_err_and c.from_residual-in_err-values.result c.from_residual-in_err-values.ensures.1 in
    rw (p.1, p.2, ← c.self.view_is) (rect_fails c.self.inside.hdus.items c.self.inside.tail.items c.args.h c.in_ok-i.i c.index_mut-hdu.result.now c.args.lo.now c.args.hi.now c.in_err-values.field-0.0 c.self.invariant.whole at
    (described_at c.self.inside.hdus.items c.args.h c.in_ok-i.i c.index_mut-hdu.result.now c.self.invariant.described at) c.in_err-values.ensures.err)

pub invariant_of-self-2 : goal.invariant_of-self-2
invariant_of-self-2 g c =
    kept_read _ c.self.inside.hdus.items c.self.inside.tail.items c.args.h c.in_ok-i.i c.self.inside.len c.self.inside.names.numbers.items c.self.inside.names.room c.index_mut-hdu.result.now c.rect.new.self
    (is_at c.self.inside.hdus.items c.deref.result.now c.args.h c.args.h c.in_ok-i.i c.index_mut-hdu.result.now c.deref.ensures.value refl c.in_ok-i.ensures.found c.index_mut-hdu.ensures.value)
    (ap uncounted c.in_ok-values.ensures.work) c.self.invariant

pub returns-clause-ok : goal.returns-clause-ok
returns-clause-ok g c =
    let at = is_at c.self.inside.hdus.items c.deref.result.now c.args.h c.args.h c.in_ok-i.i c.index_mut-hdu.result.now c.deref.ensures.value refl c.in_ok-i.ensures.found c.index_mut-hdu.ensures.value in
    rw (← c.self.view_is) (rect_ok c.self.inside.hdus.items c.self.inside.tail.items c.args.h c.in_ok-i.i c.index_mut-hdu.result.now c.args.lo.now c.args.hi.now c.in_ok-values.values.items c.self.invariant.whole at
    (described_at c.self.inside.hdus.items c.args.h c.in_ok-i.i c.index_mut-hdu.result.now c.self.invariant.described at) c.in_ok-values.ensures.ok)

pub returns-clause-asks : goal.returns-clause-asks
returns-clause-asks g c =
    rw (← c.self.view_is) (rect_asks c.self.inside.hdus.items c.self.inside.tail.items c.args.h c.in_ok-i.i _ c.index_mut-hdu.result.now c.rect.new.self
    (is_at c.self.inside.hdus.items c.deref.result.now c.args.h c.args.h c.in_ok-i.i c.index_mut-hdu.result.now c.deref.ensures.value refl c.in_ok-i.ensures.found c.index_mut-hdu.ensures.value)
    c.in_ok-values.ensures.work)

pub returns-clause-stays : goal.returns-clause-stays
returns-clause-stays g c = record {
  lie = λ bytes lie.
      let own : AllLie bytes c.self.inside.hdus.items = rw (← c.self.view_is) at lie in
      (kept_read (in_file bytes) c.self.inside.hdus.items c.self.inside.tail.items c.args.h c.in_ok-i.i c.self.inside.len c.self.inside.names.numbers.items c.self.inside.names.room c.index_mut-hdu.result.now c.rect.new.self
      (is_at c.self.inside.hdus.items c.deref.result.now c.args.h c.args.h c.in_ok-i.i c.index_mut-hdu.result.now c.deref.ensures.value refl c.in_ok-i.ensures.found c.index_mut-hdu.ensures.value)
      (ap uncounted c.in_ok-values.ensures.work) (kept_in _ (in_file bytes) _ _ _ _ _ c.self.invariant own)).had;
  seen = λ all.
      let own : All IsSeen c.self.inside.hdus.items = rw (← c.self.view_is) at all in
      let at = (is_at c.self.inside.hdus.items c.deref.result.now c.args.h c.args.h c.in_ok-i.i c.index_mut-hdu.result.now c.deref.ensures.value refl c.in_ok-i.ensures.found c.index_mut-hdu.ensures.value) in
      seen_same (set c.self.inside.hdus.items c.in_ok-i.i c.rect.new.self) c.self.inside.hdus.items (absences_of-same c.self.inside.hdus.items c.in_ok-i.i c.index_mut-hdu.result.now c.rect.new.self at.index.within at.is (ap (λ (one : HduState). one.absent) c.in_ok-values.ensures.work)) own;
}

pub returns-in_err-values-clause-stays : goal.returns-in_err-values-clause-stays
returns-in_err-values-clause-stays g c = record {
  lie = λ bytes lie.
      let own : AllLie bytes c.self.inside.hdus.items = rw (← c.self.view_is) at lie in
      (kept_read (in_file bytes) c.self.inside.hdus.items c.self.inside.tail.items c.args.h c.in_ok-i.i c.self.inside.len c.self.inside.names.numbers.items c.self.inside.names.room c.index_mut-hdu.result.now c.rect.new.self
      (is_at c.self.inside.hdus.items c.deref.result.now c.args.h c.args.h c.in_ok-i.i c.index_mut-hdu.result.now c.deref.ensures.value refl c.in_ok-i.ensures.found c.index_mut-hdu.ensures.value)
      (ap uncounted c.in_err-values.ensures.same) (kept_in _ (in_file bytes) _ _ _ _ _ c.self.invariant own)).had;
  seen = λ all.
      let own : All IsSeen c.self.inside.hdus.items = rw (← c.self.view_is) at all in
      let at = (is_at c.self.inside.hdus.items c.deref.result.now c.args.h c.args.h c.in_ok-i.i c.index_mut-hdu.result.now c.deref.ensures.value refl c.in_ok-i.ensures.found c.index_mut-hdu.ensures.value) in
      seen_same (set c.self.inside.hdus.items c.in_ok-i.i c.rect.new.self) c.self.inside.hdus.items (absences_of-same c.self.inside.hdus.items c.in_ok-i.i c.index_mut-hdu.result.now c.rect.new.self at.index.within at.is (ap (λ (one : HduState). one.absent) c.in_err-values.ensures.same)) own;
}
