use Rattle.std.proofs.Common.{◌≡◌, false, arith, sym}
use Rattle.fits_sum.specs.ChecksumText.{is_excluded_pair}
use Rattle.fits_sum.proofs.CharacterLemmas.{least_move_is}
use Rattle.fits_sum.proofs.checksum_text.least_move.Goals as goal

pub returns-then-not-excluded-clause-value : goal.returns-then-not-excluded-clause-value
returns-then-not-excluded-clause-value c =
    let free : is_excluded_pair c.args.first c.args.second c.loop-n.n ≡ false = cc in
    sym (least_move_is c.args.first c.args.second c.loop-n.n (omega arith) c.loop-n.invariant (λ h. free))

pub returns-clause-value : goal.returns-clause-value
returns-clause-value c = sym (least_move_is c.args.first c.args.second 16 (omega arith) (λ k h. c.loop-n.invariant k (omega arith)) (λ h. absurd (omega arith)))
