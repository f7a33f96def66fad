use Rattle.fits_cli.specs.NewErrors.{new_errors}
use Rattle.fits_laws.proofs.NewLemmas.{none_warn}
use Rattle.fits_laws.proofs.script.new_errors_are_errors.Goals as goal

pub returns : goal.returns
unfolding new_errors
returns c before after = none_warn before after after
