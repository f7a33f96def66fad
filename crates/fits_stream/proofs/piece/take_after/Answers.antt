use Rattle.std.proofs.Common.{arith}
use Rattle.std.proofs.lemmas.Grind.{common_steps}
use Rattle.fits_stream.proofs.IntakeLemmas.{after_more_quiet, reads_after_more, reads_after_nothing}
use Rattle.fits_stream.proofs.piece.take_after.Goals as goal

pub loop-bytes-preserved : goal.loop-bytes-preserved
loop-bytes-preserved g c = record {
  wide = grind (arith, common_steps);
  size = grind (arith, common_steps);
  within = grind (arith, common_steps);
  read = rw c.in-Ok-extend_from_slice.ensures.items (reads_after_more _ _ _ _ _ _ c.loop-bytes.invariant.read c.in-Ok.ensures.ok);
}

-- the source ended
pub returns-then-n-eq0-clause-ok : goal.returns-then-n-eq0-clause-ok
returns-then-n-eq0-clause-ok g c = reads_after_nothing _ _ _ _ _ _ _ c.loop-bytes.invariant.read c.in-Ok.ensures.ok c.if-n-eq0.true

pub returns-then-n-eq0-clause-ends : goal.returns-then-n-eq0-clause-ends
returns-then-n-eq0-clause-ends g c less = c.in-Ok.ensures.ends c.if-n-eq0.true (grind (arith, common_steps))

-- memory was refused
pub returns-in_default-extend_from_slice-clause-err : goal.returns-in_default-extend_from_slice-clause-err
returns-in_default-extend_from_slice-clause-err g c = after_more_quiet _ _ _ _ _ _ c.loop-bytes.invariant.read c.in-Ok.ensures.ok
