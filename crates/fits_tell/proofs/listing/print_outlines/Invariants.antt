use Rattle.std.proofs.Common.{◌≡◌, take}
use Rattle.fits_stream.specs.Stream.{Prints}
use Rattle.fits_tell.specs.Listing.{outlined_len, plain_line}
use Rattle.fits_tell.specs.Placed.{placed_len, placed_lines}
use Rattle.fits_tell.proofs.listing.print_outlines.Given as goal

abbrev pub invariant-loop-i : goal.invariant-loop-i
invariant-loop-i g l = record {
  start : l.start ≡ placed_len outlined_len (take l.i l.outlines);
  printed : Prints (placed_lines plain_line outlined_len 1 0 (take l.i l.outlines)) (g.O.Sink.state l.fn.out) (g.O.Sink.state l.out);
}
