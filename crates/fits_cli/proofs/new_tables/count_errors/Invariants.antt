use Rattle.std.proofs.Common.{◌≡◌, ◌≤◌, take}
use Rattle.fits_cli.specs.NewTables.{table_errors}
use Rattle.fits_cli.proofs.new_tables.count_errors.Given as goal

abbrev pub invariant-loop-it : goal.invariant-loop-it
invariant-loop-it l = record {
  value : l.errors ≡ table_errors (take l.it-index l.report);
  within : l.errors ≤ l.it-index;
}
