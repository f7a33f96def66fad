use Rattle.std.proofs.Common.{◌≡◌, ◌+◌, drop}
use Rattle.std.specs.List.{prefix_len}
use Rattle.fits_tell.specs.TableReport.{is_before_table}
use Rattle.fits_tell.proofs.table_report.before_len.Given as goal

abbrev pub invariant-loop-i : goal.invariant-loop-i
invariant-loop-i l = l.i + prefix_len (is_before_table l.h) (drop l.i l.report) ≡ prefix_len (is_before_table l.h) l.report
