use Rattle.std.proofs.Common.{◌≡◌, drop, arith}
use Rattle.fits_diff.specs.Differences.{common_len}
use Rattle.fits_diff.proofs.PassingLemmas.{common_past, common_within, common_within_other}
use Rattle.fits_diff.proofs.passing.common_len.Goals as goal

pub returns : goal.returns
returns c =
    let xs = c.args.bytes.now in
    let ys = c.args.others.now in
    let i = c.loop-index.index in
    let none : common_len (drop i xs) (drop i ys) ≡ 0 = common_past xs ys i (λ l m. absurd (omega (arith, l, m, c.min-most.ensures, c.loop-index-test.false))) in
    omega (arith, c.loop-index.invariant, none, common_within xs ys, common_within_other xs ys, c.min-most.ensures, c.loop-index-test.false)
