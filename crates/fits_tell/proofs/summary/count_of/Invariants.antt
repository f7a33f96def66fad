use Rattle.std.proofs.Common.{◌≡◌, ◌≤◌, take}
use Rattle.fits_tell.specs.Summary.{count_of}
use Rattle.fits_tell.proofs.summary.count_of.Given as goal

abbrev pub invariant-loop-it : goal.invariant-loop-it
invariant-loop-it l = record {
  value : l.count ≡ count_of l.number (take l.it-index l.report);
  within : l.count ≤ l.it-index;
}
