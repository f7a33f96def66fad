use Rattle.std.proofs.Common.{◌≡◌}
use Rattle.std.specs.List.{sum_by}
use Rattle.fits_pieces.specs.Pieces.{joins_of, reads_of, scans_of}
use Rattle.fits_pieces.proofs.piece_work.work_of_pieces.Given as goal

abbrev pub invariant-loop-piece : goal.invariant-loop-piece
invariant-loop-piece l = record {
  scans : l.work.scans.total ≡ sum_by scans_of l.yielded;
  reads : l.work.reads.total ≡ sum_by reads_of l.yielded;
  joins : l.work.joins.total ≡ sum_by joins_of l.yielded;
}
