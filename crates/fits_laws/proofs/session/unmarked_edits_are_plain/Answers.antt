use Rattle.fits_laws.proofs.MarkedLemmas.{unmarked_are_plain}
use Rattle.fits_laws.proofs.session.unmarked_edits_are_plain.Goals as goal

pub returns : goal.returns
returns c = unmarked_are_plain
