use Rattle.std.proofs.Common.{take, length, ◌≡◌}
use Rattle.fits_cli.specs.NewErrors.{AreCounts}
use Rattle.fits_cli.proofs.code_counts.counts_of.Given as goal

abbrev pub invariant-loop-it : goal.invariant-loop-it
invariant-loop-it l = record {
  counts : AreCounts (take l.it-index l.report) l.counts;
  len : length l.counts ≡ 27;
}
