use Rattle.fits_session.specs.Session.{IsSeen}
use Rattle.std.specs.Prelude.{All}
use Rattle.std.proofs.Common.{set, refl, sym}
use Rattle.fits_session.specs.Away.{in_file, AllLie}
use Rattle.fits_session.proofs.HadLemmas.{kept_in}
use Rattle.fits_session.proofs.KeptLemmas.{seen_same, kept_read, uncounted_read}
use Rattle.fits_session.proofs.QueryLemmas.{card_there}
use Rattle.fits_session.proofs.StateLemmas.{absences_of-same, asked, asked_none, is_at}
use Rattle.fits_session.proofs.session.Session.card.Goals as goal

pub returns-in_err-i-clause-asks : goal.returns-in_err-i-clause-asks
returns-in_err-i-clause-asks g c = asked_none _ _ _

pub invariant_of-self : goal.invariant_of-self
invariant_of-self g c =
    kept_read _ c.self.inside.hdus.items c.self.inside.tail.items c.args.h c.in_ok-i.i c.self.inside.len c.self.inside.names.numbers.items c.self.inside.names.room c.index_mut-hdu.result.now c.card.new.self
    (is_at c.self.inside.hdus.items c.deref.result.now c.args.h c.args.h c.in_ok-i.i c.index_mut-hdu.result.now c.deref.ensures.value refl c.in_ok-i.ensures.found c.index_mut-hdu.ensures.value)
    (uncounted_read _ _ _ c.card.ensures.work) c.self.invariant

pub returns-clause-value : goal.returns-clause-value
returns-clause-value g c =
    rw (c.ok_or.ensures.value, c.card.ensures.value, ← c.self.view_is) (sym (card_there c.self.inside.hdus.items c.self.inside.tail.items c.args.h c.in_ok-i.i c.args.place c.index_mut-hdu.result.now
    (is_at c.self.inside.hdus.items c.deref.result.now c.args.h c.args.h c.in_ok-i.i c.index_mut-hdu.result.now c.deref.ensures.value refl c.in_ok-i.ensures.found c.index_mut-hdu.ensures.value)))

pub returns-clause-asks : goal.returns-clause-asks
returns-clause-asks g c =
    rw (← c.self.view_is) (asked c.self.inside.hdus.items c.self.inside.tail.items c.args.h c.in_ok-i.i 1 c.index_mut-hdu.result.now c.card.new.self
    (is_at c.self.inside.hdus.items c.deref.result.now c.args.h c.args.h c.in_ok-i.i c.index_mut-hdu.result.now c.deref.ensures.value refl c.in_ok-i.ensures.found c.index_mut-hdu.ensures.value)
    c.card.ensures.work)

pub returns-clause-stays : goal.returns-clause-stays
returns-clause-stays g c = record {
  lie = λ bytes lie.
      let own : AllLie bytes c.self.inside.hdus.items = rw (← c.self.view_is) at lie in
      (kept_read (in_file bytes) c.self.inside.hdus.items c.self.inside.tail.items c.args.h c.in_ok-i.i c.self.inside.len c.self.inside.names.numbers.items c.self.inside.names.room c.index_mut-hdu.result.now c.card.new.self
      (is_at c.self.inside.hdus.items c.deref.result.now c.args.h c.args.h c.in_ok-i.i c.index_mut-hdu.result.now c.deref.ensures.value refl c.in_ok-i.ensures.found c.index_mut-hdu.ensures.value)
      (uncounted_read _ _ _ c.card.ensures.work) (kept_in _ (in_file bytes) _ _ _ _ _ c.self.invariant own)).had;
  seen = λ all.
      let own : All IsSeen c.self.inside.hdus.items = rw (← c.self.view_is) at all in
      let at = (is_at c.self.inside.hdus.items c.deref.result.now c.args.h c.args.h c.in_ok-i.i c.index_mut-hdu.result.now c.deref.ensures.value refl c.in_ok-i.ensures.found c.index_mut-hdu.ensures.value) in
      seen_same (set c.self.inside.hdus.items c.in_ok-i.i c.card.new.self) c.self.inside.hdus.items (absences_of-same c.self.inside.hdus.items c.in_ok-i.i c.index_mut-hdu.result.now c.card.new.self at.index.within at.is c.card.ensures.work.absent) own;
}
