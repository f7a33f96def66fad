use Rattle.std.proofs.Common.{◌≡◌, take}
use Rattle.fits_stream.specs.Stream.{Prints}
use Rattle.fits_tell.specs.Listing.{called_len, called_line}
use Rattle.fits_tell.specs.Placed.{placed_len, placed_lines}
use Rattle.fits_tell.proofs.long_listing.print_called.Given as goal

abbrev pub invariant-loop-i : goal.invariant-loop-i
invariant-loop-i g l = record {
  start : l.start ≡ placed_len called_len (take l.i l.outlines);
  printed : Prints (placed_lines called_line called_len 1 0 (take l.i l.outlines)) (g.O.Sink.state l.fn.out) (g.O.Sink.state l.out);
}
