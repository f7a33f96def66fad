use Rattle.fits_laws.proofs.FileLemmas as files
use Rattle.fits_laws.proofs.session.a_file_or_a_fault.Goals as goal

pub returns : goal.returns
returns c = files.file_or_fault
