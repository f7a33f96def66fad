use Rattle.std.proofs.Common.{◌≡◌, ◌++◌, map, take}
use Rattle.fits_header.specs.Findings.{found_at}
use Rattle.fits_passing.specs.Report.{in_hdu}
use Rattle.fits_passing.proofs.reporting.push_codes.Given as goal

abbrev pub invariant-loop-code : goal.invariant-loop-code
invariant-loop-code l = l.report.items ≡ l.fn.report.items ++ map (in_hdu l.h) (found_at 0 (take l.code-index l.codes))
