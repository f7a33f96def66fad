use Rattle.std.proofs.Common.{◌≡◌, ap, false, refl, sym, ◌∙◌, arith}
use Rattle.std.specs.Prelude.{◌&&◌}
use Rattle.fits_hdu.specs.State.{parts_of}
use Rattle.fits_passing.specs.Sums.{verdicts_of}
use Rattle.fits_passing.specs.declared.verdicts.Verdicts.{Verdicts}
use Rattle.fits_making.specs.Keeping.{are_right}
use Rattle.fits_session.proofs.QueryLemmas.{kept_said, kept_sums}
use Rattle.fits_session.proofs.StateLemmas.{is_at, file_within, part_there}
use Rattle.fits_session.proofs.session.Session.kept.Goals as goal

pub verdicts-verdicts-requires-clause-small : goal.verdicts-verdicts-requires-clause-small
verdicts-verdicts-requires-clause-small g c =
    let part = part_there c.self.inside.hdus.items c.self.inside.tail.items c.args.h c.in_ok-i.i c.index-hdu.result.now
    (is_at c.self.inside.hdus.items c.deref.result.now c.args.h c.args.h c.in_ok-i.i c.index-hdu.result.now c.deref.ensures.value refl c.in_ok-i.ensures.found c.index-hdu.ensures) in
    omega (arith, part, (file_within c.self.inside.hdus.items c.self.inside.tail.items c.self.invariant.whole).0)

pub returns-clause-value : goal.returns-clause-value
returns-clause-value g c =
    rw (← c.self.view_is) (kept_said c.self.inside.hdus.items c.self.inside.tail.items c.args.h c.in_ok-i.i c.index-hdu.result.now c.is_kept.result
    (is_at c.self.inside.hdus.items c.deref.result.now c.args.h c.args.h c.in_ok-i.i c.index-hdu.result.now c.deref.ensures.value refl c.in_ok-i.ensures.found c.index-hdu.ensures)
    (c.is_kept.ensures ∙ ap (λ mark. mark && are_right c.verdicts-verdicts.result) c.kept-2.ensures ∙ ap (λ (v : Verdicts). c.index-hdu.result.now.kept && are_right v) c.verdicts-verdicts.ensures))

pub returns-clause-right : goal.returns-clause-right
returns-clause-right g c on =
    rw (← c.self.view_is) (kept_sums c.self.inside.hdus.items c.self.inside.tail.items c.args.h c.in_ok-i.i c.index-hdu.result.now c.is_kept.result
    (is_at c.self.inside.hdus.items c.deref.result.now c.args.h c.args.h c.in_ok-i.i c.index-hdu.result.now c.deref.ensures.value refl c.in_ok-i.ensures.found c.index-hdu.ensures)
    (c.is_kept.ensures ∙ ap (λ mark. mark && are_right c.verdicts-verdicts.result) c.kept-2.ensures ∙ ap (λ (v : Verdicts). c.index-hdu.result.now.kept && are_right v) c.verdicts-verdicts.ensures) on)

-- one that isn't kept says no
pub returns-then-not-kept-clause-value : goal.returns-then-not-kept-clause-value
returns-then-not-kept-clause-value g c =
    let at = (is_at c.self.inside.hdus.items c.deref.result.now c.args.h c.args.h c.in_ok-i.i c.index-hdu.result.now c.deref.ensures.value refl c.in_ok-i.ensures.found c.index-hdu.ensures) in
    let off : c.index-hdu.result.now.kept ≡ false = sym c.kept.ensures ∙ c.if-not-kept.true in
    rw (← c.self.view_is) (kept_said c.self.inside.hdus.items c.self.inside.tail.items c.args.h c.in_ok-i.i c.index-hdu.result.now false at (sym (ap (λ mark. mark && are_right (verdicts_of (parts_of c.index-hdu.result.now))) off)))
