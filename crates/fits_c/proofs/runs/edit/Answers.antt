use Rattle.std.proofs.Common.{refl}
use Rattle.fits_c.proofs.OutcomeLemmas.{edited}
use Rattle.fits_c.proofs.runs.edit.Goals as goal

pub returns : goal.returns
returns c =
    edited c.args.file.now c.args.script.now c.into_inner.result.items c.into_inner-2.result.items _ _ _ _ _ _ c.args.terms c.run_edit_told-edited.result c.outcome_of.result c.run_edit_told-edited.ensures.ends
    (rw c.end_of.ensures at c.outcome_of.ensures) (rw (c.new-answers.ensures, c.new-2.ensures.items) refl) (rw (c.new-saved.ensures, c.new.ensures.items) refl) (rw c.into_inner.ensures refl) (rw c.into_inner-2.ensures refl)
