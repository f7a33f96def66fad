use Rattle.std.proofs.Common.{◌≡◌, ◌++◌, map, take}
use Rattle.fits_cli.specs.NewTables.{problem_in}
use Rattle.fits_cli.proofs.table_problems.push_problems.Given as goal

abbrev pub invariant-loop-code : goal.invariant-loop-code
invariant-loop-code l = l.report.items ≡ l.fn.report.items ++ map (problem_in l.h) (take l.code-index l.codes)
