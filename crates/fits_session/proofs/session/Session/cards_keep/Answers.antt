use Rattle.fits_session.specs.Session.{IsSeen}
use Rattle.std.specs.Prelude.{All}
use Rattle.std.proofs.Common.{set, refl}
use Rattle.std.proofs.lemmas.Result.{err_from_is_err_and}
use Rattle.fits_edit.specs.declared.edit.Edit.TheVariants.{Hdu}
use Rattle.fits_edit.specs.declared.hdu_edit.HduEdit.TheVariants.{Cards}
use Rattle.fits_session.specs.Away.{in_file, AllLie}
use Rattle.fits_session.proofs.GuardLemmas.{keeps_nowhere, keeps_there, lacks_there, looks_none, looks_there}
use Rattle.fits_session.proofs.HadLemmas.{kept_in}
use Rattle.fits_session.proofs.KeptLemmas.{seen_same, kept_read, uncounted_read}
use Rattle.fits_session.proofs.StateLemmas.{absences_of-same, is_at}
use Rattle.fits_session.proofs.session.Session.cards_keep.Goals as goal

pub returns-in_default-clause-ok : goal.returns-in_default-clause-ok
returns-in_default-clause-ok g c = rw (← c.self.view_is) (keeps_nowhere c.self.inside.hdus.items c.self.inside.tail.items c.args.h c.args.edit.now (rw c.deref.ensures.value at c.in_default.ensures.none))

pub returns-in_default-clause-looks : goal.returns-in_default-clause-looks
returns-in_default-clause-looks g c = looks_none (Hdu c.args.h (Cards c.args.edit.now)) _

pub invariant_of-self : goal.invariant_of-self
invariant_of-self g c =
    kept_read _ c.self.inside.hdus.items c.self.inside.tail.items c.args.h c.in-Ok.i c.self.inside.len c.self.inside.names.numbers.items c.self.inside.names.room c.index_mut-hdu.result.now c.cards_keep.new.hdu
    (is_at c.self.inside.hdus.items c.deref.result.now c.args.h c.args.h c.in-Ok.i c.index_mut-hdu.result.now c.deref.ensures.value refl c.in-Ok.ensures.found c.index_mut-hdu.ensures.value)
    (uncounted_read _ _ _ c.cards_keep.ensures.work) c.self.invariant

pub returns-in_err-keeps-clause-err : goal.returns-in_err-keeps-clause-err
returns-in_err-keeps-clause-err g c =
    let p = err_from_is_err_and c.from_residual.result c.from_residual.ensures.1 in
    rw (p.1, ← c.self.view_is) (lacks_there c.self.inside.hdus.items c.self.inside.tail.items c.args.h c.in-Ok.i c.args.edit.now c.index_mut-hdu.result.now
    (is_at c.self.inside.hdus.items c.deref.result.now c.args.h c.args.h c.in-Ok.i c.index_mut-hdu.result.now c.deref.ensures.value refl c.in-Ok.ensures.found c.index_mut-hdu.ensures.value)
    c.in_err-keeps.ensures.err)

pub returns-in_err-keeps-clause-looks : goal.returns-in_err-keeps-clause-looks
returns-in_err-keeps-clause-looks g c = rw (← c.self.view_is) (looks_there c.self.inside.hdus.items c.self.inside.tail.items c.args.h c.in-Ok.i c.args.edit.now c.index_mut-hdu.result.now c.cards_keep.new.hdu
    (is_at c.self.inside.hdus.items c.deref.result.now c.args.h c.args.h c.in-Ok.i c.index_mut-hdu.result.now c.deref.ensures.value refl c.in-Ok.ensures.found c.index_mut-hdu.ensures.value)
    c.cards_keep.ensures.work)

pub invariant_of-self-2 : goal.invariant_of-self-2
invariant_of-self-2 g c =
    kept_read _ c.self.inside.hdus.items c.self.inside.tail.items c.args.h c.in-Ok.i c.self.inside.len c.self.inside.names.numbers.items c.self.inside.names.room c.index_mut-hdu.result.now c.cards_keep.new.hdu
    (is_at c.self.inside.hdus.items c.deref.result.now c.args.h c.args.h c.in-Ok.i c.index_mut-hdu.result.now c.deref.ensures.value refl c.in-Ok.ensures.found c.index_mut-hdu.ensures.value)
    (uncounted_read _ _ _ c.cards_keep.ensures.work) c.self.invariant

pub returns-clause-ok : goal.returns-clause-ok
returns-clause-ok g c =
    rw (← c.self.view_is) (keeps_there c.self.inside.hdus.items c.self.inside.tail.items c.args.h c.in-Ok.i c.args.edit.now c.index_mut-hdu.result.now c.in_ok-keeps.keeps c.self.invariant.whole
    (is_at c.self.inside.hdus.items c.deref.result.now c.args.h c.args.h c.in-Ok.i c.index_mut-hdu.result.now c.deref.ensures.value refl c.in-Ok.ensures.found c.index_mut-hdu.ensures.value)
    c.cards_keep.ensures.described c.in_ok-keeps.ensures.value)

pub returns-clause-looks : goal.returns-clause-looks
returns-clause-looks g c = rw (← c.self.view_is) (looks_there c.self.inside.hdus.items c.self.inside.tail.items c.args.h c.in-Ok.i c.args.edit.now c.index_mut-hdu.result.now c.cards_keep.new.hdu
    (is_at c.self.inside.hdus.items c.deref.result.now c.args.h c.args.h c.in-Ok.i c.index_mut-hdu.result.now c.deref.ensures.value refl c.in-Ok.ensures.found c.index_mut-hdu.ensures.value)
    c.cards_keep.ensures.work)

pub returns-in_err-keeps-clause-stays : goal.returns-in_err-keeps-clause-stays
returns-in_err-keeps-clause-stays g c = record {
  lie = λ bytes lie.
      let own : AllLie bytes c.self.inside.hdus.items = rw (← c.self.view_is) at lie in
      (kept_read (in_file bytes) c.self.inside.hdus.items c.self.inside.tail.items c.args.h c.in-Ok.i c.self.inside.len c.self.inside.names.numbers.items c.self.inside.names.room c.index_mut-hdu.result.now c.cards_keep.new.hdu
      (is_at c.self.inside.hdus.items c.deref.result.now c.args.h c.args.h c.in-Ok.i c.index_mut-hdu.result.now c.deref.ensures.value refl c.in-Ok.ensures.found c.index_mut-hdu.ensures.value)
      (uncounted_read _ _ _ c.cards_keep.ensures.work) (kept_in _ (in_file bytes) _ _ _ _ _ c.self.invariant own)).had;
  seen = λ all.
      let own : All IsSeen c.self.inside.hdus.items = rw (← c.self.view_is) at all in
      let at = (is_at c.self.inside.hdus.items c.deref.result.now c.args.h c.args.h c.in-Ok.i c.index_mut-hdu.result.now c.deref.ensures.value refl c.in-Ok.ensures.found c.index_mut-hdu.ensures.value) in
      seen_same (set c.self.inside.hdus.items c.in-Ok.i c.cards_keep.new.hdu) c.self.inside.hdus.items (absences_of-same c.self.inside.hdus.items c.in-Ok.i c.index_mut-hdu.result.now c.cards_keep.new.hdu at.index.within at.is c.cards_keep.ensures.work.absent) own;
}

pub returns-clause-stays : goal.returns-clause-stays
returns-clause-stays g c = record {
  lie = λ bytes lie.
      let own : AllLie bytes c.self.inside.hdus.items = rw (← c.self.view_is) at lie in
      (kept_read (in_file bytes) c.self.inside.hdus.items c.self.inside.tail.items c.args.h c.in-Ok.i c.self.inside.len c.self.inside.names.numbers.items c.self.inside.names.room c.index_mut-hdu.result.now c.cards_keep.new.hdu
      (is_at c.self.inside.hdus.items c.deref.result.now c.args.h c.args.h c.in-Ok.i c.index_mut-hdu.result.now c.deref.ensures.value refl c.in-Ok.ensures.found c.index_mut-hdu.ensures.value)
      (uncounted_read _ _ _ c.cards_keep.ensures.work) (kept_in _ (in_file bytes) _ _ _ _ _ c.self.invariant own)).had;
  seen = λ all.
      let own : All IsSeen c.self.inside.hdus.items = rw (← c.self.view_is) at all in
      let at = (is_at c.self.inside.hdus.items c.deref.result.now c.args.h c.args.h c.in-Ok.i c.index_mut-hdu.result.now c.deref.ensures.value refl c.in-Ok.ensures.found c.index_mut-hdu.ensures.value) in
      seen_same (set c.self.inside.hdus.items c.in-Ok.i c.cards_keep.new.hdu) c.self.inside.hdus.items (absences_of-same c.self.inside.hdus.items c.in-Ok.i c.index_mut-hdu.result.now c.cards_keep.new.hdu at.index.within at.is c.cards_keep.ensures.work.absent) own;
}
