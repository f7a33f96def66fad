use Rattle.std.proofs.Common.{◌+◌, length}
use Rattle.fits_stream.specs.Intake.{supply}
use Rattle.fits_diff.proofs.TailLemmas.{TailsSoFar}
use Rattle.fits_diff.proofs.tails.compare_tails.Given as goal

abbrev pub invariant-block : goal.invariant-block
invariant-block g l = TailsSoFar (supply (g.F.Source.state l.fn.a) l.fn.first) (supply (g.F.Source.state l.a) l.first) (supply (g.F.Source.state l.fn.b) l.fn.second) (supply (g.F.Source.state l.b) l.second)

abbrev pub decreases-block : goal.decreases-block
decreases-block g l = length l.first.ahead + l.first.left
