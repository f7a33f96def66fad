use Rattle.fits_laws.proofs.ReadBackLemmas.{written_said, written_told}
use Rattle.fits_laws.proofs.write.written_cards_read_back.Goals as goal

pub returns-clause-said : goal.returns-clause-said
returns-clause-said c = written_said

pub returns-clause-told : goal.returns-clause-told
returns-clause-told c = written_told
