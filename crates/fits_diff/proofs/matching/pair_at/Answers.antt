use Rattle.std.proofs.Common.{◌<◌, ◌≤◌, arith}
use Rattle.fits_diff.proofs.matching.pair_at.Goals as goal

-- each that is near enough was looked at
pub returns-clause-none : goal.returns-clause-none
returns-clause-none c = λ s from far less other_less alike.
    let least : c.first_index-least.result ≤ s = c.first_index-least.ensures.least s from (omega (arith, other_less, c.len-other_len.ensures.value)) in
    let below : s < c.loop-first.first = omega (arith, c.loop-first-test.false, c.min-most.ensures, c.len-len.ensures.value, less, far) in
    c.loop-first.invariant.none s least below alike
