use Rattle.std.proofs.Common.{rules}
use Rattle.fits_extended.proofs.ScaledLemmas.{taken_digits}
use Rattle.fits_extended.proofs.number_text.split_digits.Goals as goal

pub returns-clause-are : goal.returns-clause-are
returns-clause-are c = taken_digits c.args.text.now c.split_at.result.0.now (search rules)
