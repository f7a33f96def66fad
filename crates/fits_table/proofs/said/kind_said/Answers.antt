use Rattle.fits_codes.proofs.SaidLemmas.{kind-read}
use Rattle.fits_table.proofs.said.kind_said.Goals as goal

pub returns-then-has_value : goal.returns-then-has_value
returns-then-has_value c = kind-read c.args.card.now c.in-Some.reading.kind _ _ (cc) c.in-Some.ensures.found
