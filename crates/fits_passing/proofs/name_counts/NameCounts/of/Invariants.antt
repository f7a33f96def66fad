use Rattle.std.proofs.Common.{take}
use Rattle.fits_passing.specs.NameCounts.{IsTableOf}
use Rattle.fits_passing.specs.Report.{found_names}
use Rattle.fits_passing.proofs.name_counts.NameCounts.of.Given as goal

abbrev pub invariant-loop-it : goal.invariant-loop-it
invariant-loop-it l = IsTableOf (found_names (take l.it-index l.found)) l.counts.numbers.entries
