use Rattle.fits_laws.proofs.BoundLemmas.{asks_little, asks_pixels_little, value_few}
use Rattle.fits_laws.proofs.work.openings_and_queries_work_little.Goals as goal

pub returns-clause-value : goal.returns-clause-value
returns-clause-value c = value_few

pub returns-clause-asks : goal.returns-clause-asks
returns-clause-asks c = asks_little

pub returns-clause-asks_pixels : goal.returns-clause-asks_pixels
returns-clause-asks_pixels c = asks_pixels_little
