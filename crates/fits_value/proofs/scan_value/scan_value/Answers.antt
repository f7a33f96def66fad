use Rattle.std.proofs.Common.{arith}
use Rattle.std.proofs.lemmas.Grind.{common_steps}
use Rattle.fits_value.specs.Scan.{front_value}
use Rattle.fits_value.proofs.scan_value.scan_value.Goals as goal

pub returns-in_err-place-in-39-clause-value : goal.returns-in_err-place-in-39-clause-value
unfolding front_value
returns-in_err-place-in-39-clause-value c = grind (arith, common_steps)

pub returns-in_err-pair-in-40-clause-value : goal.returns-in_err-pair-in-40-clause-value
unfolding front_value
returns-in_err-pair-in-40-clause-value c = grind (arith, common_steps)

pub returns-in_ok-place-in-39-clause-value : goal.returns-in_ok-place-in-39-clause-value
unfolding front_value
returns-in_ok-place-in-39-clause-value c = grind (arith, common_steps)

pub returns-in-84-clause-value : goal.returns-in-84-clause-value
unfolding front_value
returns-in-84-clause-value c = grind (arith, common_steps)

pub returns-in_ok-pair-in-40-clause-value : goal.returns-in_ok-pair-in-40-clause-value
unfolding front_value
returns-in_ok-pair-in-40-clause-value c = grind (arith, common_steps)

pub returns-in_default-clause-value : goal.returns-in_default-clause-value
unfolding front_value
returns-in_default-clause-value c = grind (arith, common_steps)

pub returns-in-empty-clause-value : goal.returns-in-empty-clause-value
unfolding front_value
returns-in-empty-clause-value c = grind (arith, common_steps)

pub returns-in-empty-2-clause-value : goal.returns-in-empty-2-clause-value
unfolding front_value
returns-in-empty-2-clause-value c = grind (arith, common_steps)
