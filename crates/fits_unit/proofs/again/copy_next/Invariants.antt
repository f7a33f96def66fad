use Rattle.std.proofs.Common.{◌+◌, ◌-◌, ◌≡◌, ◌≤◌, ◌%◌, ◌*◌, ◌/◌, ℕ, List, length}
use Rattle.fits_stream.specs.Stream.{Prints, Reads}
use Rattle.fits_sum.specs.Words.{word_total}
use Rattle.fits_unit.proofs.again.copy_next.Given as goal

abbrev pub invariant-loop-count : goal.invariant-loop-count
invariant-loop-count g l = record {
  done : List ℕ;
  size : length done ≡ l.count;
  blocks : l.count % 2880 ≡ 0;
  within : l.count ≤ l.len;
  read : Reads done (g.R.Source.state l.fn.source) (g.R.Source.state l.source);
  written : Prints done (g.W.Sink.state l.fn.sink) (g.W.Sink.state l.sink);
  total_is : l.total ≡ word_total done;
  bounded : l.total ≤ 4294967295 * (l.count / 4);
  wide : length l.room ≡ length l.fn.room;
  looked : l.looked.total ≡ l.fn.looked.total + l.count / 2880;
}

abbrev pub decreases-loop-count : goal.decreases-loop-count
decreases-loop-count g l = l.len - l.count
