use Rattle.std.proofs.Common.{refl}
use Rattle.fits_c.proofs.OutcomeLemmas.{shown}
use Rattle.fits_c.proofs.runs.cards.Goals as goal

pub returns : goal.returns
returns c =
    shown c.args.h c.args.file.now c.into_inner.result.items _ _ _ c.in-Ok.choice c.run_cards-shown.result.end c.run_cards-shown.result.changed.items c.outcome_of.result c.run_cards-shown.ensures
    (rw c.new-2.ensures.items at c.outcome_of.ensures) c.in-Ok.ensures.hdus c.in-Ok.ensures.names (rw (c.new-answers.ensures, c.new.ensures.items) refl) (rw c.into_inner.ensures refl)
