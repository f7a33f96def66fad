use Rattle.std.proofs.Common.{◌==◌, ◌*◌, ◌+◌, ◌≡◌, subst, arith}
use Rattle.fits_value.proofs.RunLemmas.{GoesOn, past_chunk}
use Rattle.fits_value.proofs.runs.run_len.Goals as goal

pub loop-i-preserved : goal.loop-i-preserved
loop-i-preserved c =
    let next : 16 * c.loop-i.i + 16 ≡ 16 * (c.loop-i.i + 1) = omega arith in
    subst (GoesOn (λ b. b == c.args.byte) c.args.text.now) next (past_chunk _ _ _ (omega arith) (omega arith) c.loop-i.invariant)
