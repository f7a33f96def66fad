use Rattle.std.proofs.Common.{◌≡◌, ◌+◌, ◌++◌, length}
use Rattle.fits_passing.specs.Headers.{read_cards}
use Rattle.fits_tell.specs.TableReport.{with_tables}
use Rattle.fits_tell.proofs.table_report.with_tables.Given as goal

abbrev pub invariant-loop-header : goal.invariant-loop-header
invariant-loop-header l = record {
  problems : l.problems.items ++ with_tables (length l.judged.items + 1) (read_cards l.header-iterator.rest.items) l.rest ≡ with_tables 1 (read_cards l.fn.headers.items) l.report;
  headers : read_cards l.judged.items ++ read_cards l.header-iterator.rest.items ≡ read_cards l.fn.headers.items;
}
