use Rattle.std.proofs.Common.{arith}
use Rattle.fits_stream.proofs.StoredLemmas.{past_known}
use Rattle.fits_stream.proofs.file_source.PlacedFile.go_past.Goals as goal

pub returns-clause-ok : goal.returns-clause-ok
returns-clause-ok g c =
    past_known _ _ _ c.in-Some.place c.known_len.result c.in-Some-checked_sub.left c.min-count.result _ _ c.in-Some.is c.known_len.ensures c.in-Some-checked_sub.ensures.1 (omega (arith, c.min-count.ensures)) c.pass.ensures
