use Rattle.fits_cli.proofs.ReadingLemmas.{reading_of-kept_of}
use Rattle.fits_cli.specs.Running.{kept_of}
use Rattle.fits_laws.proofs.script.reading_of_a_front.Goals as goal

pub returns : goal.returns
unfolding kept_of
returns c = reading_of-kept_of
