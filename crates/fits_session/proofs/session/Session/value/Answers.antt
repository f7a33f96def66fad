use Rattle.fits_session.specs.Session.{IsSeen}
use Rattle.std.specs.Prelude.{All}
use Rattle.std.proofs.Common.{set, refl}
use Rattle.std.proofs.lemmas.Result.{err_from_is_err_and}
use Rattle.fits_session.specs.Away.{in_file, AllLie}
use Rattle.fits_session.proofs.HadLemmas.{kept_in}
use Rattle.fits_session.proofs.KeptLemmas.{seen_same, kept_read, uncounted_read}
use Rattle.fits_session.proofs.QueryLemmas.{value_ok, value_fails, value_asks}
use Rattle.fits_session.proofs.StateLemmas.{absences_of-same, is_at, asked_none}
use Rattle.fits_session.proofs.session.Session.value.Goals as goal

pub returns-in_err-i-clause-asks : goal.returns-in_err-i-clause-asks
returns-in_err-i-clause-asks g c = asked_none _ _ _

pub invariant_of-self : goal.invariant_of-self
invariant_of-self g c =
    kept_read _ c.self.inside.hdus.items c.self.inside.tail.items c.args.h c.in_ok-i.i c.self.inside.len c.self.inside.names.numbers.items c.self.inside.names.room c.index_mut-hdu.result.now c.value.new.self
    (is_at c.self.inside.hdus.items c.deref.result.now c.args.h c.args.h c.in_ok-i.i c.index_mut-hdu.result.now c.deref.ensures.value refl c.in_ok-i.ensures.found c.index_mut-hdu.ensures.value)
    (uncounted_read _ _ _ c.value.ensures.work) c.self.invariant

pub returns-in_err-said-clause-err : goal.returns-in_err-said-clause-err
returns-in_err-said-clause-err g c =
    let p = err_from_is_err_and c.from_residual-in_err-said.result c.from_residual-in_err-said.ensures.1 in
    rw (p.1, p.2, ← c.self.view_is) (value_fails c.self.inside.hdus.items c.self.inside.tail.items c.args.h c.in_ok-i.i c.index_mut-hdu.result.now c.args.name.now c.in_err-said.field-0.0
    (is_at c.self.inside.hdus.items c.deref.result.now c.args.h c.args.h c.in_ok-i.i c.index_mut-hdu.result.now c.deref.ensures.value refl c.in_ok-i.ensures.found c.index_mut-hdu.ensures.value)
    c.in_err-said.ensures.err)

pub returns-in_err-said-clause-asks : goal.returns-in_err-said-clause-asks
returns-in_err-said-clause-asks g c =
    rw (← c.self.view_is) (value_asks c.self.inside.hdus.items c.self.inside.tail.items c.args.h c.in_ok-i.i c.index_mut-hdu.result.now c.value.new.self c.args.name.now
    (is_at c.self.inside.hdus.items c.deref.result.now c.args.h c.args.h c.in_ok-i.i c.index_mut-hdu.result.now c.deref.ensures.value refl c.in_ok-i.ensures.found c.index_mut-hdu.ensures.value)
    c.value.ensures.work)

pub invariant_of-self-2 : goal.invariant_of-self-2
invariant_of-self-2 g c =
    kept_read _ c.self.inside.hdus.items c.self.inside.tail.items c.args.h c.in_ok-i.i c.self.inside.len c.self.inside.names.numbers.items c.self.inside.names.room c.index_mut-hdu.result.now c.value.new.self
    (is_at c.self.inside.hdus.items c.deref.result.now c.args.h c.args.h c.in_ok-i.i c.index_mut-hdu.result.now c.deref.ensures.value refl c.in_ok-i.ensures.found c.index_mut-hdu.ensures.value)
    (uncounted_read _ _ _ c.value.ensures.work) c.self.invariant

pub returns-clause-ok : goal.returns-clause-ok
returns-clause-ok g c =
    rw (← c.self.view_is) (value_ok c.self.inside.hdus.items c.self.inside.tail.items c.args.h c.in_ok-i.i c.index_mut-hdu.result.now c.args.name.now c.in_ok-said.said
    (is_at c.self.inside.hdus.items c.deref.result.now c.args.h c.args.h c.in_ok-i.i c.index_mut-hdu.result.now c.deref.ensures.value refl c.in_ok-i.ensures.found c.index_mut-hdu.ensures.value)
    c.in_ok-said.ensures.ok)

pub returns-clause-asks : goal.returns-clause-asks
returns-clause-asks g c =
    rw (← c.self.view_is) (value_asks c.self.inside.hdus.items c.self.inside.tail.items c.args.h c.in_ok-i.i c.index_mut-hdu.result.now c.value.new.self c.args.name.now
    (is_at c.self.inside.hdus.items c.deref.result.now c.args.h c.args.h c.in_ok-i.i c.index_mut-hdu.result.now c.deref.ensures.value refl c.in_ok-i.ensures.found c.index_mut-hdu.ensures.value)
    c.value.ensures.work)

pub returns-in_err-said-clause-stays : goal.returns-in_err-said-clause-stays
returns-in_err-said-clause-stays g c = record {
  lie = λ bytes lie.
      let own : AllLie bytes c.self.inside.hdus.items = rw (← c.self.view_is) at lie in
      (kept_read (in_file bytes) c.self.inside.hdus.items c.self.inside.tail.items c.args.h c.in_ok-i.i c.self.inside.len c.self.inside.names.numbers.items c.self.inside.names.room c.index_mut-hdu.result.now c.value.new.self
      (is_at c.self.inside.hdus.items c.deref.result.now c.args.h c.args.h c.in_ok-i.i c.index_mut-hdu.result.now c.deref.ensures.value refl c.in_ok-i.ensures.found c.index_mut-hdu.ensures.value)
      (uncounted_read _ _ _ c.value.ensures.work) (kept_in _ (in_file bytes) _ _ _ _ _ c.self.invariant own)).had;
  seen = λ all.
      let own : All IsSeen c.self.inside.hdus.items = rw (← c.self.view_is) at all in
      let at = (is_at c.self.inside.hdus.items c.deref.result.now c.args.h c.args.h c.in_ok-i.i c.index_mut-hdu.result.now c.deref.ensures.value refl c.in_ok-i.ensures.found c.index_mut-hdu.ensures.value) in
      seen_same (set c.self.inside.hdus.items c.in_ok-i.i c.value.new.self) c.self.inside.hdus.items (absences_of-same c.self.inside.hdus.items c.in_ok-i.i c.index_mut-hdu.result.now c.value.new.self at.index.within at.is c.value.ensures.work.absent) own;
}

pub returns-clause-stays : goal.returns-clause-stays
returns-clause-stays g c = record {
  lie = λ bytes lie.
      let own : AllLie bytes c.self.inside.hdus.items = rw (← c.self.view_is) at lie in
      (kept_read (in_file bytes) c.self.inside.hdus.items c.self.inside.tail.items c.args.h c.in_ok-i.i c.self.inside.len c.self.inside.names.numbers.items c.self.inside.names.room c.index_mut-hdu.result.now c.value.new.self
      (is_at c.self.inside.hdus.items c.deref.result.now c.args.h c.args.h c.in_ok-i.i c.index_mut-hdu.result.now c.deref.ensures.value refl c.in_ok-i.ensures.found c.index_mut-hdu.ensures.value)
      (uncounted_read _ _ _ c.value.ensures.work) (kept_in _ (in_file bytes) _ _ _ _ _ c.self.invariant own)).had;
  seen = λ all.
      let own : All IsSeen c.self.inside.hdus.items = rw (← c.self.view_is) at all in
      let at = (is_at c.self.inside.hdus.items c.deref.result.now c.args.h c.args.h c.in_ok-i.i c.index_mut-hdu.result.now c.deref.ensures.value refl c.in_ok-i.ensures.found c.index_mut-hdu.ensures.value) in
      seen_same (set c.self.inside.hdus.items c.in_ok-i.i c.value.new.self) c.self.inside.hdus.items (absences_of-same c.self.inside.hdus.items c.in_ok-i.i c.index_mut-hdu.result.now c.value.new.self at.index.within at.is c.value.ensures.work.absent) own;
}
