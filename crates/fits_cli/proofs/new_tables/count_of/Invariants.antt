use Rattle.std.proofs.Common.{◌≡◌, ◌≤◌, take}
use Rattle.fits_cli.specs.NewTables.{table_count}
use Rattle.fits_cli.proofs.new_tables.count_of.Given as goal

abbrev pub invariant-loop-it : goal.invariant-loop-it
invariant-loop-it l = record {
  value : l.count ≡ table_count l.code (take l.it-index l.report);
  within : l.count ≤ l.it-index;
}
