use Rattle.std.proofs.Common.{◌≡◌, ◌≤◌, take}
use Rattle.fits_tell.specs.Listed.{listed_errors}
use Rattle.fits_tell.proofs.listed_lines.count_errors.Given as goal

abbrev pub invariant-loop-it : goal.invariant-loop-it
invariant-loop-it l = record {
  value : l.errors ≡ listed_errors (take l.it-index l.report);
  within : l.errors ≤ l.it-index;
}
