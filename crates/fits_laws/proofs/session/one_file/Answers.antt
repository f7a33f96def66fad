use Rattle.fits_laws.proofs.FileLemmas as files
use Rattle.fits_laws.proofs.session.one_file.Goals as goal

pub returns : goal.returns
returns c = files.one_file
