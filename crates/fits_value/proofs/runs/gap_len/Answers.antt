use Rattle.std.proofs.Common.{◌==◌, ◌*◌, ◌+◌, ◌≡◌, not, subst, arith}
use Rattle.fits_value.proofs.RunLemmas.{GoesOn, past_chunk}
use Rattle.fits_value.proofs.runs.gap_len.Goals as goal

pub loop-i-preserved : goal.loop-i-preserved
loop-i-preserved c =
    let next : 16 * c.loop-i.i + 16 ≡ 16 * (c.loop-i.i + 1) = omega arith in
    subst (GoesOn (λ b. not (b == c.args.byte)) c.args.text.now) next (past_chunk _ _ _ (omega arith) (omega arith) c.loop-i.invariant)
