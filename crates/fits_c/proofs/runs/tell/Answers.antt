use Rattle.std.proofs.Common.{refl}
use Rattle.fits_c.proofs.OutcomeLemmas.{told}
use Rattle.fits_c.proofs.runs.tell.Goals as goal

pub returns : goal.returns
returns c =
    told c.args.file.now c.into_inner.result.items _ _ _ c.args.telling c.run_telling-end.result.status c.run_telling-end.result.fault c.outcome_of.result c.run_telling-end.ensures
    (rw c.new-2.ensures.items at c.outcome_of.ensures) (rw (c.new-answers.ensures, c.new.ensures.items) refl) (rw c.into_inner.ensures refl)
