use Rattle.std.proofs.Common.{◌≡◌, ◌++◌, map, take}
use Rattle.fits_tell.specs.declared.listed.Listed.TheVariants.{OfFile}
use Rattle.fits_tell.proofs.table_report.push_problems.Given as goal

abbrev pub invariant-loop-it : goal.invariant-loop-it
invariant-loop-it l = l.problems.items ≡ l.fn.problems.items ++ map OfFile (take l.it-index l.report)
