use Rattle.fits_laws.proofs.LargeLemmas.{never_large}
use Rattle.fits_laws.proofs.session.as_many_cards_are_never_too_large.Goals as goal

pub returns : goal.returns
returns c = never_large
