use Rattle.std.proofs.Common.{◌∙◌}
use Rattle.fits_codes.proofs.MarkLemmas.{begins-field, begins-no_field}
use Rattle.fits_codes.proofs.mark.begins.Goals as goal

pub returns-then-has_value : goal.returns-then-has_value
returns-then-has_value c = c.requires ∙ begins-field c.args.card.now (cc)

pub returns-else-has_value : goal.returns-else-has_value
returns-else-has_value c = c.if-has_value.false ∙ begins-no_field c.args.card.now (cc)
