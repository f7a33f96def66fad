use Rattle.std.specs.Prelude.{All}
use Rattle.std.proofs.Common.{ap, List, ◌∙◌, arith}
use Rattle.fits_hdu.specs.State.{HduState}
use Rattle.fits_session.specs.Session.{IsSeen, marked_of, state_of}
use Rattle.fits_session.specs.Away.{in_file, AllLie}
use Rattle.fits_session.proofs.HadLemmas.{kept_in}
use Rattle.fits_session.proofs.StateLemmas.{file_size}
use Rattle.fits_session.proofs.VouchLemmas.{seen_marked, kept_marked, marked_vouched}
use Rattle.fits_session.proofs.session.Session.keep_right.Goals as goal

pub mark_all-requires-clause-seen : goal.mark_all-requires-clause-seen
mark_all-requires-clause-seen g c = rw (← c.self.view_is) at c.requires

pub mark_all-requires-clause-few : goal.mark_all-requires-clause-few
mark_all-requires-clause-few g c = omega (arith, file_size c.self.inside.hdus.items c.self.inside.tail.items c.self.invariant.whole)

pub invariant_of-self : goal.invariant_of-self
invariant_of-self g c =
    let own : All IsSeen c.self.inside.hdus.items = rw (← c.self.view_is) at c.requires in
    kept_marked _ c.self.inside.hdus.items c.mark_all.new.hdus.items c.self.inside.tail.items c.self.inside.len c.self.inside.names.numbers.items c.self.inside.names.room c.mark_all.ensures own c.self.invariant

pub returns-clause-marks : goal.returns-clause-marks
returns-clause-marks g c =
    rw (← c.self.view_is) (ap (λ (us : List HduState). marked_of (state_of us c.self.inside.tail.items)) c.mark_all.ensures ∙ marked_vouched c.self.inside.hdus.items c.self.inside.tail.items)

pub returns-clause-stays : goal.returns-clause-stays
returns-clause-stays g c = record {
  lie = λ bytes lie.
      let own : AllLie bytes c.self.inside.hdus.items = rw (← c.self.view_is) at lie in
      let seen : All IsSeen c.self.inside.hdus.items = rw (← c.self.view_is) at c.requires in
      (kept_marked (in_file bytes) c.self.inside.hdus.items c.mark_all.new.hdus.items c.self.inside.tail.items c.self.inside.len c.self.inside.names.numbers.items c.self.inside.names.room c.mark_all.ensures seen (kept_in _ (in_file bytes) _ _ _ _ _ c.self.invariant own)).had;
  seen = λ all.
      let own : All IsSeen c.self.inside.hdus.items = rw (← c.self.view_is) at all in
      rw c.mark_all.ensures (seen_marked c.self.inside.hdus.items own);
}
