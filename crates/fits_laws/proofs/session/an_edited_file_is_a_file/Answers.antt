use Rattle.fits_session.proofs.LawLemmas.{edited}
use Rattle.fits_laws.proofs.session.an_edited_file_is_a_file.Goals as goal

pub returns : goal.returns
returns c = edited
