use Rattle.fits_session.specs.Session.{IsSeen}
use Rattle.std.specs.Prelude.{All}
use Rattle.std.proofs.Common.{set, refl}
use Rattle.std.proofs.lemmas.Result.{err_from_is_err_and}
use Rattle.fits_hdu.proofs.StateLemmas.{parts_read}
use Rattle.fits_session.specs.Away.{in_file, AllLie}
use Rattle.fits_session.proofs.GuardLemmas.{codes_there, no_codes}
use Rattle.fits_session.proofs.HadLemmas.{kept_in}
use Rattle.fits_session.proofs.KeptLemmas.{seen_same, kept_read, uncounted_read}
use Rattle.fits_session.proofs.StateLemmas.{absences_of-same, is_at, marked_of-same}
use Rattle.fits_session.proofs.session.Session.table_codes.Goals as goal

pub invariant_of-self : goal.invariant_of-self
invariant_of-self g c =
    kept_read _ c.self.inside.hdus.items c.self.inside.tail.items c.args.h c.in_ok-i.i c.self.inside.len c.self.inside.names.numbers.items c.self.inside.names.room c.index_mut-hdu.result.now c.table_codes.new.self
    (is_at c.self.inside.hdus.items c.deref.result.now c.args.h c.args.h c.in_ok-i.i c.index_mut-hdu.result.now c.deref.ensures.value refl c.in_ok-i.ensures.found c.index_mut-hdu.ensures.value)
    (uncounted_read _ _ _ c.table_codes.ensures.work) c.self.invariant

pub returns-in_err-codes-clause-err : goal.returns-in_err-codes-clause-err
returns-in_err-codes-clause-err g c =
    let p = err_from_is_err_and c.from_residual-in_err-codes.result c.from_residual-in_err-codes.ensures.1 in
    rw (p.1, p.2, ← c.self.view_is) (no_codes c.self.inside.hdus.items c.self.inside.tail.items c.args.h c.in_ok-i.i c.index_mut-hdu.result.now c.self.invariant.whole
    (is_at c.self.inside.hdus.items c.deref.result.now c.args.h c.args.h c.in_ok-i.i c.index_mut-hdu.result.now c.deref.ensures.value refl c.in_ok-i.ensures.found c.index_mut-hdu.ensures.value)
    c.table_codes.ensures.described)

pub returns-in_err-codes-clause-same : goal.returns-in_err-codes-clause-same
returns-in_err-codes-clause-same g c = rw (← c.self.view_is) (marked_of-same c.self.inside.hdus.items c.self.inside.tail.items c.args.h c.in_ok-i.i c.index_mut-hdu.result.now c.table_codes.new.self
    (is_at c.self.inside.hdus.items c.deref.result.now c.args.h c.args.h c.in_ok-i.i c.index_mut-hdu.result.now c.deref.ensures.value refl c.in_ok-i.ensures.found c.index_mut-hdu.ensures.value)
    (parts_read _ _ _ c.table_codes.ensures.work) c.table_codes.ensures.work.kept)

pub invariant_of-self-2 : goal.invariant_of-self-2
invariant_of-self-2 g c =
    kept_read _ c.self.inside.hdus.items c.self.inside.tail.items c.args.h c.in_ok-i.i c.self.inside.len c.self.inside.names.numbers.items c.self.inside.names.room c.index_mut-hdu.result.now c.table_codes.new.self
    (is_at c.self.inside.hdus.items c.deref.result.now c.args.h c.args.h c.in_ok-i.i c.index_mut-hdu.result.now c.deref.ensures.value refl c.in_ok-i.ensures.found c.index_mut-hdu.ensures.value)
    (uncounted_read _ _ _ c.table_codes.ensures.work) c.self.invariant

pub returns-clause-ok : goal.returns-clause-ok
returns-clause-ok g c =
    rw (← c.self.view_is) (codes_there c.self.inside.hdus.items c.self.inside.tail.items c.args.h c.in_ok-i.i c.index_mut-hdu.result.now c.in_ok-codes.codes.items c.self.invariant.whole
    (is_at c.self.inside.hdus.items c.deref.result.now c.args.h c.args.h c.in_ok-i.i c.index_mut-hdu.result.now c.deref.ensures.value refl c.in_ok-i.ensures.found c.index_mut-hdu.ensures.value)
    c.table_codes.ensures.described c.in_ok-codes.ensures.codes)

pub returns-clause-same : goal.returns-clause-same
returns-clause-same g c = rw (← c.self.view_is) (marked_of-same c.self.inside.hdus.items c.self.inside.tail.items c.args.h c.in_ok-i.i c.index_mut-hdu.result.now c.table_codes.new.self
    (is_at c.self.inside.hdus.items c.deref.result.now c.args.h c.args.h c.in_ok-i.i c.index_mut-hdu.result.now c.deref.ensures.value refl c.in_ok-i.ensures.found c.index_mut-hdu.ensures.value)
    (parts_read _ _ _ c.table_codes.ensures.work) c.table_codes.ensures.work.kept)

pub returns-in_err-codes-clause-stays : goal.returns-in_err-codes-clause-stays
returns-in_err-codes-clause-stays g c = record {
  lie = λ bytes lie.
      let own : AllLie bytes c.self.inside.hdus.items = rw (← c.self.view_is) at lie in
      (kept_read (in_file bytes) c.self.inside.hdus.items c.self.inside.tail.items c.args.h c.in_ok-i.i c.self.inside.len c.self.inside.names.numbers.items c.self.inside.names.room c.index_mut-hdu.result.now c.table_codes.new.self
      (is_at c.self.inside.hdus.items c.deref.result.now c.args.h c.args.h c.in_ok-i.i c.index_mut-hdu.result.now c.deref.ensures.value refl c.in_ok-i.ensures.found c.index_mut-hdu.ensures.value)
      (uncounted_read _ _ _ c.table_codes.ensures.work) (kept_in _ (in_file bytes) _ _ _ _ _ c.self.invariant own)).had;
  seen = λ all.
      let own : All IsSeen c.self.inside.hdus.items = rw (← c.self.view_is) at all in
      let at = (is_at c.self.inside.hdus.items c.deref.result.now c.args.h c.args.h c.in_ok-i.i c.index_mut-hdu.result.now c.deref.ensures.value refl c.in_ok-i.ensures.found c.index_mut-hdu.ensures.value) in
      seen_same (set c.self.inside.hdus.items c.in_ok-i.i c.table_codes.new.self) c.self.inside.hdus.items (absences_of-same c.self.inside.hdus.items c.in_ok-i.i c.index_mut-hdu.result.now c.table_codes.new.self at.index.within at.is c.table_codes.ensures.work.absent) own;
}

pub returns-clause-stays : goal.returns-clause-stays
returns-clause-stays g c = record {
  lie = λ bytes lie.
      let own : AllLie bytes c.self.inside.hdus.items = rw (← c.self.view_is) at lie in
      (kept_read (in_file bytes) c.self.inside.hdus.items c.self.inside.tail.items c.args.h c.in_ok-i.i c.self.inside.len c.self.inside.names.numbers.items c.self.inside.names.room c.index_mut-hdu.result.now c.table_codes.new.self
      (is_at c.self.inside.hdus.items c.deref.result.now c.args.h c.args.h c.in_ok-i.i c.index_mut-hdu.result.now c.deref.ensures.value refl c.in_ok-i.ensures.found c.index_mut-hdu.ensures.value)
      (uncounted_read _ _ _ c.table_codes.ensures.work) (kept_in _ (in_file bytes) _ _ _ _ _ c.self.invariant own)).had;
  seen = λ all.
      let own : All IsSeen c.self.inside.hdus.items = rw (← c.self.view_is) at all in
      let at = (is_at c.self.inside.hdus.items c.deref.result.now c.args.h c.args.h c.in_ok-i.i c.index_mut-hdu.result.now c.deref.ensures.value refl c.in_ok-i.ensures.found c.index_mut-hdu.ensures.value) in
      seen_same (set c.self.inside.hdus.items c.in_ok-i.i c.table_codes.new.self) c.self.inside.hdus.items (absences_of-same c.self.inside.hdus.items c.in_ok-i.i c.index_mut-hdu.result.now c.table_codes.new.self at.index.within at.is c.table_codes.ensures.work.absent) own;
}

-- no data unit lies elsewhere
pub returns-in_err-codes-clause-absences : goal.returns-in_err-codes-clause-absences
returns-in_err-codes-clause-absences g c =
    let at = (is_at c.self.inside.hdus.items c.deref.result.now c.args.h c.args.h c.in_ok-i.i c.index_mut-hdu.result.now c.deref.ensures.value refl c.in_ok-i.ensures.found c.index_mut-hdu.ensures.value) in
    rw (← c.self.view_is) (absences_of-same c.self.inside.hdus.items c.in_ok-i.i c.index_mut-hdu.result.now c.table_codes.new.self at.index.within at.is c.table_codes.ensures.work.absent)

pub returns-clause-absences : goal.returns-clause-absences
returns-clause-absences g c =
    let at = (is_at c.self.inside.hdus.items c.deref.result.now c.args.h c.args.h c.in_ok-i.i c.index_mut-hdu.result.now c.deref.ensures.value refl c.in_ok-i.ensures.found c.index_mut-hdu.ensures.value) in
    rw (← c.self.view_is) (absences_of-same c.self.inside.hdus.items c.in_ok-i.i c.index_mut-hdu.result.now c.table_codes.new.self at.index.within at.is c.table_codes.ensures.work.absent)
