use Rattle.std.proofs.Common.{◌≡◌, ◌+◌, length, arith}
use Rattle.std.proofs.lemmas.Bool.Decides.{nat_tests}
use Rattle.fits_extended.proofs.ScaledLemmas.{cut_back}
use Rattle.fits_extended.proofs.same_number.cut_run.Goals as goal

pub returns-else-is_empty-clause-value : goal.returns-else-is_empty-clause-value
returns-else-is_empty-clause-value c =
    let cut = c.cut_last-last-else-is_empty in
    let none = c.is_empty.ensures in
    let some = c.if-is_empty.false in
    let shorter = cut.ensures.shorter in
    let one : length cut.result.0.now + 1 ≡ length c.args.run.back.now = grind (arith, nat_tests) in
    cut_back c.args.run.front.now c.args.run.back.now cut.result.0.now cut.result.1 cut.ensures.value one
