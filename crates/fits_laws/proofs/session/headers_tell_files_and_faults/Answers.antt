use Rattle.fits_laws.proofs.HeadersLemmas.{tell_faults, tell_files}
use Rattle.fits_laws.proofs.session.headers_tell_files_and_faults.Goals as goal

pub returns-clause-files : goal.returns-clause-files
returns-clause-files c = tell_files

pub returns-clause-faults : goal.returns-clause-faults
returns-clause-faults c = tell_faults
