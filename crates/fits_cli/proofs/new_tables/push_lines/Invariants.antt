use Rattle.std.proofs.Common.{◌≡◌, ◌++◌, take}
use Rattle.fits_cli.specs.NewTables.{new_table_lines}
use Rattle.fits_cli.proofs.new_tables.push_lines.Given as goal

abbrev pub invariant-loop-it : goal.invariant-loop-it
invariant-loop-it l = l.text.items ≡ l.fn.text.items ++ new_table_lines (take l.it-index l.report)
