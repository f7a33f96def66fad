use Rattle.std.proofs.Common.{rules, arith}
use Rattle.std.proofs.lemmas.Grind.{common_steps}
use Rattle.fits_stream.proofs.StreamLemmas.{Prints-taken}
use Rattle.fits_stream.proofs.writing.write_all.Goals as goal

pub loop-at-preserved : goal.loop-at-preserved
loop-at-preserved g c = record {
  within = grind (arith, common_steps);
  printed = Prints-taken _ _ _ _ _ _ c.loop-at.invariant.printed c.in_ok-n.ensures.ok.bytes (search rules);
}
