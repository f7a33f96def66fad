use Rattle.std.proofs.Common.{◌≡◌, ◌≤◌, length}
use Rattle.fits_stream.specs.Named.{unnamed}
use Rattle.fits_stream.specs.Stream.{Stays}
use Rattle.fits_stream.proofs.named_lines.write_name.Given as goal

abbrev pub invariant-loop-left : goal.invariant-loop-left
invariant-loop-left g l = record {
  within : l.left ≤ length l.name;
  kept : Stays (unnamed l.name l.fn.left l.fn.sent.total (g.O.Sink.state l.fn.sink).contents) (unnamed l.name l.left l.sent.total (g.O.Sink.state l.sink).contents);
  quiet : (g.O.Sink.state l.sink).failures ≡ (g.O.Sink.state l.fn.sink).failures;
}

abbrev pub decreases-loop-left : goal.decreases-loop-left
decreases-loop-left g l = l.left
