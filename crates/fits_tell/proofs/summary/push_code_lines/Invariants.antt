use Rattle.std.proofs.Common.{◌≡◌, ◌++◌}
use Rattle.fits_tell.specs.Summary.{code_lines}
use Rattle.fits_tell.proofs.summary.push_code_lines.Given as goal

abbrev pub invariant-loop-before : goal.invariant-loop-before
invariant-loop-before l = l.text.items ≡ l.fn.text.items ++ code_lines l.level l.report l.before
