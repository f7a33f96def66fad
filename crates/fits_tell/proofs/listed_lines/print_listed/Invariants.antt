use Rattle.std.proofs.Common.{◌≡◌, take}
use Rattle.fits_passing.specs.Headers.{read_cards}
use Rattle.fits_stream.specs.Stream.{Prints}
use Rattle.std.specs.List.{flat_map}
use Rattle.fits_tell.specs.Listed.{report_line_at}
use Rattle.fits_tell.proofs.listed_lines.print_listed.Given as goal

abbrev pub invariant-loop-it : goal.invariant-loop-it
invariant-loop-it g l = record {
  same : read_cards l.headers.items ≡ read_cards l.fn.headers.items;
  printed : Prints (flat_map (report_line_at l.level (read_cards l.fn.headers.items)) (take l.it-index l.report)) (g.O.Sink.state l.fn.out) (g.O.Sink.state l.out);
}
