use Rattle.std.proofs.Common.{◌≡◌, ◌+◌, ◌∙◌, ap, arith, drop, refl, sym}
use Rattle.std.proofs.Math.ListN.{drop_of_length-le}
use Rattle.fits_passing.specs.Met.{hdu_end, hdus_end}
use Rattle.fits_session.proofs.AwayLemmas.{end_step, hdu_within, header_within}
use Rattle.fits_session.proofs.session.reading.end_of.Goals as goal

pub loop-it-init : goal.loop-it-init
loop-it-init c = refl

pub byte_len-requires : goal.byte_len-requires
byte_len-requires c = omega (arith, header_within c.args.passed.now c.loop-it.it-index c.loop-it.end c.it-item.result c.loop-it-test.true c.it-item.is c.loop-it.invariant c.requires)

pub overflow_add-end : goal.overflow_add-end
overflow_add-end c = omega (arith, hdu_within c.args.passed.now c.loop-it.it-index c.loop-it.end c.it-item.result c.loop-it-test.true c.it-item.is c.loop-it.invariant c.requires, c.byte_len.ensures, c.byte_len-in-loop-it.ensures)

pub overflow_add-end-in-loop-it : goal.overflow_add-end-in-loop-it
overflow_add-end-in-loop-it c = omega (arith, hdu_within c.args.passed.now c.loop-it.it-index c.loop-it.end c.it-item.result c.loop-it-test.true c.it-item.is c.loop-it.invariant c.requires, c.byte_len.ensures, c.byte_len-in-loop-it.ensures)

pub loop-it-preserved : goal.loop-it-preserved
loop-it-preserved c =
    let is : c.loop-it.end + (c.byte_len.result + c.byte_len-in-loop-it.result) ≡ hdu_end c.loop-it.end c.it-item.result = omega (arith, c.byte_len.ensures, c.byte_len-in-loop-it.ensures) in
    ap (λ n. hdus_end n (drop (c.loop-it.it-index + 1) c.args.passed.now)) is ∙ end_step c.args.passed.now c.loop-it.it-index c.loop-it.end c.it-item.result c.loop-it-test.true c.it-item.is c.loop-it.invariant

pub returns : goal.returns
returns c = sym (ap (hdus_end c.loop-it.end) (drop_of_length-le c.args.passed.now c.loop-it-test.false)) ∙ c.loop-it.invariant
