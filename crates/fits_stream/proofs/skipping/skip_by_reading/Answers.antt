use Rattle.std.proofs.Common.{arith}
use Rattle.std.proofs.lemmas.Bool.{eq-eqb, ne_eqb}
use Rattle.std.proofs.lemmas.Grind.{common_steps}
use Rattle.fits_stream.proofs.LogLemmas.{ended_more, on_any_err, unended_all, unended_more}
use Rattle.fits_stream.proofs.StoredLemmas.{past_read}
use Rattle.fits_stream.proofs.skipping.skip_by_reading.Goals as goal

pub loop-count-preserved : goal.loop-count-preserved
loop-count-preserved g c = record {
  wide = grind (arith, common_steps);
  size = grind (arith, common_steps);
  within = grind (arith, common_steps);
  unended = unended_more _ _ _ c.in_ok-n.n _ c.loop-count.invariant.unended c.in_ok-n.ensures.noted (ne_eqb _ _ c.if-n-eq0.false);
  gone = past_read _ _ _ c.loop-count.count c.in_ok-n.n c.give.new.buffer c.loop-count.invariant.gone c.in_ok-n.ensures.ok c.in_ok-n.ensures.bound.0;
}

-- the source ended
pub returns-then-n-eq0-clause-ends : goal.returns-then-n-eq0-clause-ends
returns-then-n-eq0-clause-ends g c less = c.in_ok-n.ensures.ends c.if-n-eq0.true (grind (arith, common_steps))

pub returns-then-n-eq0-clause-noted : goal.returns-then-n-eq0-clause-noted
returns-then-n-eq0-clause-noted g c = ended_more _ _ _ c.in_ok-n.n _ _ _ c.loop-count.invariant.unended c.in_ok-n.ensures.noted (eq-eqb _ _ c.if-n-eq0.true) (grind (arith, common_steps)) (grind (arith, common_steps))

pub returns-clause-noted : goal.returns-clause-noted
returns-clause-noted g c = unended_all _ _ _ _ c.loop-count.invariant.unended (grind (arith, common_steps))

pub returns-in_err-n-clause-unended : goal.returns-in_err-n-clause-unended
returns-in_err-n-clause-unended g c = on_any_err c.from_residual.result (rw c.in_err-n.ensures.err.log c.loop-count.invariant.unended)
