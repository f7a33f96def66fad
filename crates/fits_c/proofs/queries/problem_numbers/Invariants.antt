use Rattle.std.proofs.Common.{◌≡◌, take}
use Rattle.std.specs.List.{flat_map}
use Rattle.fits_c.specs.Queries.{problem_numbers}
use Rattle.fits_c.proofs.queries.problem_numbers.Given as goal

abbrev pub invariant-loop-problem : goal.invariant-loop-problem
invariant-loop-problem l = l.numbers.items ≡ flat_map problem_numbers (take l.problem-index l.report)
