use Rattle.std.proofs.Common.{◌<◌, inl, inr, sym, ◌∙◌, arith}
use Rattle.std.proofs.lemmas.Bool.{cases_eq, false≢true}
use Rattle.fits_extended.specs.Numbers.{length_of_run, value_of_run}
use Rattle.fits_extended.proofs.ScaledLemmas.{one_zero_more}
use Rattle.fits_extended.proofs.same_number.without_zeros.Goals as goal

pub zeros-preserved : goal.zeros-preserved
zeros-preserved c =
    let cut = c.cut_run-last in
    let some : 0 < length_of_run c.zeros.run = elim (cases_eq (length_of_run c.zeros.run) 0) [
      | inl none ↦ absurd (false≢true (sym c.zeros-test.true ∙ c.is_gone.ensures.1 none))
      | inr more ↦ omega arith
    ] in
    record {
      value = one_zero_more (value_of_run c.args.digits) (value_of_run c.zeros.run) (value_of_run cut.result.0) cut.result.1 c.zeros.zeros c.zeros.invariant.value cut.ensures.value (omega (arith, c.if-last-ne0.false));
      count = omega (arith, c.zeros.invariant.count, cut.ensures.shorter);
    }
