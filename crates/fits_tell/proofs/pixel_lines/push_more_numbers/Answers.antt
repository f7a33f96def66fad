use Rattle.std.proofs.Common.{◌++◌, ◌∙◌, ℤ, ap, get_or, pos, rules, FitsSigned}
use Rattle.std.specs.Prelude.{codes}
use Rattle.std.specs.Fmt.{signed_decimal}
use Rattle.std.specs.Int.{w128}
use Rattle.std.proofs.lemmas.Int.{to_z-of_z}
use Rattle.fits_tell.proofs.PixelLineLemmas.{numbers_step}
use Rattle.fits_tell.proofs.pixel_lines.push_more_numbers.Goals as goal

pub loop-number-preserved : goal.loop-number-preserved
loop-number-preserved c =
    let number : ℤ = get_or c.args.numbers.now c.loop-number.number-index (pos 0) in
    let fits : FitsSigned w128 number = search rules in
    numbers_step c.args.line.now.items c.loop-number.line.items c.push_signed.new.line.items c.args.numbers.now c.loop-number.number-index (pos 0) c.loop-number-test.true
    c.loop-number.invariant (c.in_ok-push_signed.ensures ∙ ap (λ n. c.loop-number.line.items ++ (codes " " ++ signed_decimal n)) (to_z-of_z w128 number fits))
