use Rattle.fits_extended.specs.Numbers.{scaled_of}
use Rattle.fits_extended.proofs.ScaledLemmas.{by_parts, first_no_number, number_exact, second_no_number}
use Rattle.fits_extended.proofs.same_number.is_same_number.Goals as goal

pub returns-in-Some-Some-clause-value : goal.returns-in-Some-Some-clause-value
returns-in-Some-Some-clause-value c =
    let k = c.in-Some-Some in
    by_parts c.args.a.now c.args.b.now (scaled_of k.a) (scaled_of k.b) c.are_same.result k.ensures.found k.ensures'.found k.ensures.some k.ensures'.some c.are_same.ensures

pub returns-in-Some-Some-clause-exact : goal.returns-in-Some-Some-clause-exact
returns-in-Some-Some-clause-exact c = number_exact c.args.a.now c.args.b.now c.are_same.result (returns-in-Some-Some-clause-value c)

pub returns-in_default-clause-value : goal.returns-in_default-clause-value
returns-in_default-clause-value c = second_no_number c.args.a.now c.args.b.now c.in_default.ensures'.none

pub returns-in_default-clause-exact : goal.returns-in_default-clause-exact
returns-in_default-clause-exact c = number_exact c.args.a.now c.args.b.now _ (returns-in_default-clause-value c)

pub returns-in_default-2-clause-value : goal.returns-in_default-2-clause-value
returns-in_default-2-clause-value c = first_no_number c.args.a.now c.args.b.now c.in_default.ensures.none

pub returns-in_default-2-clause-exact : goal.returns-in_default-2-clause-exact
returns-in_default-2-clause-exact c = number_exact c.args.a.now c.args.b.now _ (returns-in_default-2-clause-value c)
