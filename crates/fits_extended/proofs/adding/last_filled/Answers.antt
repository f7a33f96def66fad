use Rattle.std.proofs.Common.{◌≡◌, ◌-◌, ◌<◌, ◌∙◌, ℕ, Bool, ap, arith, sym, suc, true, zero}
use Rattle.std.specs.Prelude.{if◌then◌else◌}
use Rattle.fits_session.specs.Marked.{Marked}
use Rattle.fits_session.specs.Query.{card_in}
use Rattle.fits_session.specs.Session.{file_of}
use Rattle.fits_extended.specs.Stands.{is_blank_card, last_without}
use Rattle.fits_extended.proofs.StillLemmas.{still_more}
use Rattle.fits_extended.proofs.adding.last_filled.Goals as goal

pub returns-then-not-is_blank_at-clause-stays : goal.returns-then-not-is_blank_at-clause-stays
returns-then-not-is_blank_at-clause-stays g c = still_more c.places.invariant.stays c.is_blank_at.ensures.stays

-- a number of which it is so isn't the last of which it isn't
last_before : (is : ℕ → Bool) (n : ℕ) → 0 < n → is n ≡ true → last_without is (n - 1) ≡ last_without is n
unfolding last_without
last_before is zero some so = absurd (omega (arith, some))
last_before is (suc n) some so =
    let less : suc n - 1 ≡ n = omega arith in
    ap (last_without is) less ∙ sym (ap (λ (b : Bool). if b then last_without is n else suc n) so)

pub places-preserved : goal.places-preserved
places-preserved g c =
    let inv = c.places.invariant in
    let blank : is_blank_card (card_in (file_of c.args.session.now) c.args.hdu c.places.place) ≡ true =
    ap (λ (it : Marked). is_blank_card (card_in it.file c.args.hdu c.places.place)) (sym inv.same) ∙ sym c.is_blank_at.ensures.value ∙ c.if-not-is_blank_at.false in
    record {
      found = last_before (λ place. is_blank_card (card_in (file_of c.args.session.now) c.args.hdu place)) c.places.place c.places-test.true blank ∙ inv.found;
      within = omega (arith, inv.within);
      same = c.is_blank_at.ensures.same ∙ inv.same;
      stays = still_more inv.stays c.is_blank_at.ensures.stays;
      absences = c.is_blank_at.ensures.absences ∙ inv.absences;
    }
