use Rattle.std.proofs.Common.{◌≡◌, drop}
use Rattle.std.specs.List.{find}
use Rattle.fits_tell.specs.Summary.{has_number}
use Rattle.fits_tell.proofs.summary.first_of.Given as goal

abbrev pub invariant-loop-it : goal.invariant-loop-it
invariant-loop-it l = find (has_number l.number) (drop l.it-index l.report) ≡ find (has_number l.number) l.report
