use Rattle.std.proofs.Common.{take}
use Rattle.fits_stream.proofs.NamedLemmas.{HasNoFeed}
use Rattle.fits_stream.proofs.named_lines.first_line.Given as goal

abbrev pub invariant-loop-i : goal.invariant-loop-i
invariant-loop-i l = HasNoFeed (take l.i l.bytes)
