use Rattle.std.proofs.Common.{false, ◌≡◌, ◌≤◌, ◌-◌, ◌<◌, length}
use Rattle.fits_stream.specs.Log.{NotesEnd}
use Rattle.fits_stream.specs.Stored.{GoesPast}
use Rattle.fits_stream.proofs.skipping.skip_by_reading.Given as goal

abbrev pub invariant-loop-count : goal.invariant-loop-count
invariant-loop-count g l = record {
  wide : 0 < length l.piece;
  size : length l.piece ≡ length l.fn.piece;
  within : l.count ≤ l.len;
  unended : NotesEnd false (g.R.Giver.stock l.fn.reader).log (g.R.Giver.stock l.reader).log;
  gone : GoesPast (g.R.Giver.stock l.fn.reader) (g.R.Giver.stock l.reader) l.count;
}

abbrev pub decreases-loop-count : goal.decreases-loop-count
decreases-loop-count g l = l.len - l.count
