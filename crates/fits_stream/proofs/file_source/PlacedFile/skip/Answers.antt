use Rattle.fits_stream.proofs.StoredLemmas.{past_grows}
use Rattle.fits_stream.proofs.file_source.PlacedFile.skip.Goals as goal

pub returns-in-Err-clause-err : goal.returns-in-Err-clause-err
returns-in-Err-clause-err g c = past_grows _ _ _ _ c.go_past-past.ensures.ok c.in-Err.ensures.err
