use Rattle.std.proofs.Common.{◌≡◌, take}
use Rattle.fits_passing.specs.Report.{found_from, found_names}
use Rattle.fits_passing.proofs.reporting.problems.Given as goal

abbrev pub invariant-loop-i : goal.invariant-loop-i
invariant-loop-i l = l.report.items ≡ found_from (found_names l.found) 1 (take l.i l.found)
