use Rattle.fits_value.proofs.NumberLemmas.{decimal_number, number_decimal}
use Rattle.fits_laws.proofs.value.each_number_is_a_decimal.Goals as goal

pub returns-clause-only : goal.returns-clause-only
returns-clause-only c = decimal_number

pub returns-clause-each : goal.returns-clause-each
returns-clause-each c = number_decimal
