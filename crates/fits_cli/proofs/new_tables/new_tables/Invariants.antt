use Rattle.std.proofs.Common.{◌≡◌, take}
use Rattle.std.specs.List.{filter}
use Rattle.fits_cli.specs.NewTables.{is_new_table}
use Rattle.fits_cli.proofs.new_tables.new_tables.Given as goal

abbrev pub invariant-loop-it : goal.invariant-loop-it
invariant-loop-it l = l.new.items ≡ filter (is_new_table l.level l.before l.after) (take l.it-index l.after)
