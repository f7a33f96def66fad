use Rattle.std.proofs.Common.{◌≡◌, ◌≤◌, length, take}
use Rattle.std.specs.List.{filter}
use Rattle.fits_cli.specs.NewErrors.{is_new, new_error_lines}
use Rattle.fits_tell.specs.Report.{errors_in}
use Rattle.fits_cli.proofs.new_errors.errors_since.Given as goal

abbrev pub invariant-loop-it : goal.invariant-loop-it
invariant-loop-it l = record {
  text : l.text.items ≡ new_error_lines (filter (is_new l.level l.before l.after) (take l.it-index l.after));
  count : l.count ≡ length (filter (is_new l.level l.before l.after) (take l.it-index l.after));
  errors : l.errors ≡ errors_in (filter (is_new l.level l.before l.after) (take l.it-index l.after));
  few : l.errors ≤ l.count;
  within : l.count ≤ l.it-index;
}
