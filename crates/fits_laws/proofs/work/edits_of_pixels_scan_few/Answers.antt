use Rattle.fits_session.specs.Session.{works_of}
use Rattle.fits_laws.proofs.BoundLemmas.{idle_else, pixels_few, two_blocks}
use Rattle.fits_laws.proofs.work.edits_of_pixels_scan_few.Goals as goal

pub returns-clause-scans : goal.returns-clause-scans
returns-clause-scans c = pixels_few

pub returns-clause-two_blocks : goal.returns-clause-two_blocks
returns-clause-two_blocks c = two_blocks

pub returns-clause-refused : goal.returns-clause-refused
returns-clause-refused c = λ edit old new why p other. idle_else edit (works_of old.hdus) (works_of new.hdus) p.idle other
