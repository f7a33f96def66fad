use Rattle.std.proofs.Common.{[]}
use Rattle.std.specs.Prelude.{pos}
use Rattle.fits_value.proofs.NumberLemmas.{integer_decimal}
use Rattle.fits_value.proofs.NumberScanLemmas.{no_integer}
use Rattle.fits_value.proofs.number.split_integer.Goals as goal

pub returns-in_default-clause-only : goal.returns-in_default-clause-only
returns-in_default-clause-only c = λ negative digits w. c.in_default.ensures.none negative digits [] (pos 0) (integer_decimal c.args.text.now negative digits w)

pub returns-else-decimal-clause-only : goal.returns-else-decimal-clause-only
returns-else-decimal-clause-only c = λ negative digits w. no_integer c.args.text.now digits negative c.in-Some.decimal.is_integer c.in-Some.ensures.kind c.if-decimal.false w
