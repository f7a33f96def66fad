use Rattle.std.proofs.Common.{◌≡◌, rules, subst, sym, MatchOption, w64}
use Rattle.std.specs.Int.{FitsUnsigned, w128}
use Rattle.std.specs.Prelude.{FitsSigned}
use Rattle.std.proofs.lemmas.Int.{to_z-of_z}
use Rattle.serde_json.specs.Find.{of_integer}
use Rattle.serde_json.specs.View.{number_view}
use Rattle.fits_json.proofs.ValueLemmas.{none_said, some_said}
use Rattle.fits_json.proofs.values.integer_in.Goals as goal

pub returns-in_default : goal.returns-in_default
returns-in_default c = none_said c.args.text.now c.in_default.field-0 c.in_default.ensures.value.0

pub returns-then-has_64_bits : goal.returns-then-has_64_bits
returns-then-has_64_bits c =
    some_said c.args.text.now c.in-Ok.number c.from_i128.result c.in-Ok.ensures.value.0.0.0 c.in-Ok.ensures.value.0.1 (search rules)
    (subst (λ z. MatchOption c.from_i128.result (¬ FitsUnsigned w64 z × ¬ FitsSigned w64 z) (λ x. number_view x ≡ of_integer z))
    (to_z-of_z w128 c.in-Ok.number (subst (FitsSigned w128) (sym c.in-Ok.ensures.value.0.1) c.in-Ok.ensures.value.0.0.1)) c.from_i128.ensures)
