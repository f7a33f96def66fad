use Rattle.std.proofs.Common.{◌≡◌, map}
use Rattle.fits_table.specs.Column.{column_of}
use Rattle.fits_table.specs.Columns.{columns_mark}
use Rattle.fits_table.specs.TableMark.{leads_of, names_of}
use Rattle.fits_table.proofs.marking.columns_of.Given as goal

abbrev pub invariant-loop-i : goal.invariant-loop-i
invariant-loop-i g l = record {
  same : g.H.HeaderCards.cards l.cards ≡ g.H.HeaderCards.cards l.fn.cards;
  mark : l.mark ≡ columns_mark l.kind l.row (map (column_of l.kind) (leads_of (g.H.HeaderCards.cards l.fn.cards) l.i));
  names : l.names.items ≡ names_of (leads_of (g.H.HeaderCards.cards l.fn.cards) l.i);
}
