use Rattle.std.proofs.Common.{arith, rules}
use Rattle.std.proofs.lemmas.Grind.{common_steps}
use Rattle.fits_stream.proofs.IntakeLemmas.{filled_more, filled_over}
use Rattle.fits_stream.proofs.piece.fill.Goals as goal

pub loop-count-preserved : goal.loop-count-preserved
loop-count-preserved g c = record {
  within = grind (arith, common_steps);
  size = grind (arith, common_steps);
  filled = filled_more _ _ _ c.loop-count.room _ _ _ _ c.loop-count.invariant.filled (search rules) (search rules) c.in_ok-n.ensures.ok;
}

pub returns-then-n-eq0-clause-ok : goal.returns-then-n-eq0-clause-ok
returns-then-n-eq0-clause-ok g c = filled_over _ _ _ c.loop-count.room _ _ _ _ c.loop-count.invariant.filled (search rules) (search rules) c.in_ok-n.ensures.ok c.if-n-eq0.true

-- the source ended
pub returns-then-n-eq0-clause-ends : goal.returns-then-n-eq0-clause-ends
returns-then-n-eq0-clause-ends g c less = c.in_ok-n.ensures.ends c.if-n-eq0.true (grind (arith, common_steps))
