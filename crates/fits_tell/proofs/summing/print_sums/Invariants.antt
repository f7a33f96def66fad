use Rattle.std.proofs.Common.{take}
use Rattle.fits_stream.specs.Stream.{Prints}
use Rattle.fits_tell.specs.Summing.{summed_lines}
use Rattle.fits_tell.proofs.summing.print_sums.Given as goal

abbrev pub invariant-loop-i : goal.invariant-loop-i
invariant-loop-i g l =
    Prints (summed_lines 1 (take l.i l.sums)) (g.O.Sink.state l.fn.out) (g.O.Sink.state l.out)
