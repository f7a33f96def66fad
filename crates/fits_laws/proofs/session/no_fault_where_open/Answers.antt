use Rattle.fits_laws.proofs.FileLemmas as files
use Rattle.fits_laws.proofs.session.no_fault_where_open.Goals as goal

pub returns : goal.returns
returns c = files.no_open_fault
