use Rattle.std.proofs.Common.{◌≡◌, ◌++◌, map, take}
use Rattle.fits_tell.specs.TableReport.{of_table}
use Rattle.fits_tell.proofs.table_report.push_codes.Given as goal

abbrev pub invariant-loop-code : goal.invariant-loop-code
invariant-loop-code l = l.problems.items ≡ l.fn.problems.items ++ map (of_table l.h) (take l.code-index l.codes)
