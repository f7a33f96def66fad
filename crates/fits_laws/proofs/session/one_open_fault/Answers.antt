use Rattle.fits_laws.proofs.FileLemmas as files
use Rattle.fits_laws.proofs.session.one_open_fault.Goals as goal

pub returns : goal.returns
returns c = files.one_open_fault
