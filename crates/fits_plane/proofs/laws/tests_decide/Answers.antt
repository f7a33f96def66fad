use Rattle.fits_pixels.proofs.TestLemmas.{can_store_decides, can_store_all_decides}
use Rattle.fits_plane.proofs.ConvertLemmas.{can_store_run_decides}
use Rattle.fits_plane.proofs.CornerLemmas.{lies_within_decides}
use Rattle.fits_plane.proofs.laws.tests_decide.Goals as goal

pub returns-clause-lies_within : goal.returns-clause-lies_within
returns-clause-lies_within c = lies_within_decides

pub returns-clause-can_store : goal.returns-clause-can_store
returns-clause-can_store c = can_store_decides

pub returns-clause-can_store_all : goal.returns-clause-can_store_all
returns-clause-can_store_all c = can_store_all_decides

pub returns-clause-can_store_run : goal.returns-clause-can_store_run
returns-clause-can_store_run c = can_store_run_decides
