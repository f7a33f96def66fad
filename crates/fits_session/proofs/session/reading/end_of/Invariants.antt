use Rattle.std.proofs.Common.{◌≡◌, drop}
use Rattle.fits_passing.specs.Met.{hdus_end}
use Rattle.fits_session.proofs.session.reading.end_of.Given as goal

abbrev pub invariant-loop-it : goal.invariant-loop-it
invariant-loop-it l = hdus_end l.end (drop l.it-index l.passed) ≡ hdus_end 0 l.passed
