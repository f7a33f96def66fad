use Rattle.std.proofs.Common.{◌≡◌, ◌++◌, map, take}
use Rattle.fits_passing.specs.Report.{in_hdu}
use Rattle.fits_passing.proofs.reporting.push_found.Given as goal

abbrev pub invariant-loop-finding : goal.invariant-loop-finding
invariant-loop-finding l = l.report.items ≡ l.fn.report.items ++ map (in_hdu l.h) (take l.finding-index l.found)
