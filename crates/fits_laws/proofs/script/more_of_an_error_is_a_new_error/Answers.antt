use Rattle.fits_cli.proofs.NewErrorLemmas.{more-new, new-more}
use Rattle.fits_laws.proofs.script.more_of_an_error_is_a_new_error.Goals as goal

pub returns : goal.returns
returns c level before after ordered = (more-new level before after ordered, new-more level before after)
