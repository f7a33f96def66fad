use Rattle.std.proofs.Common.{rules}
use Rattle.std.specs.Int.{w64}
use Rattle.std.specs.Prelude.{FitsSigned}
use Rattle.std.proofs.lemmas.Int.{to_z-of_z}
use Rattle.fits_rules.proofs.IntegerLemmas.{number_said, large_said}
use Rattle.fits_rules.proofs.integers.integer_said.Goals as goal

pub returns-in-Some-integer_of : goal.returns-in-Some-integer_of
returns-in-Some-integer_of c =
    let fits : FitsSigned w64 c.in-Some-integer_of.number = search rules in
    rw (to_z-of_z w64 c.in-Some-integer_of.number fits) (number_said c.args.card.now c.in-Some.text.now c.in-Some-integer_of.number c.in-Some.ensures.found fits c.in-Some-integer_of.ensures.found)

-- said, so that a body that breaks it is refused at once
pub returns-in-None : goal.returns-in-None
returns-in-None c = large_said c.args.card.now c.in-Some.text.now c.in-Some.ensures.found (search rules) (search rules)
