use Rattle.fits_laws.proofs.RightLemmas.{fewer_cards}
use Rattle.fits_laws.proofs.session.fewer_cards_pass_no_limit.Goals as goal

pub returns : goal.returns
returns c = fewer_cards
