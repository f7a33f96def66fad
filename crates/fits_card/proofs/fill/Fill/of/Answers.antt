use Rattle.std.proofs.Common.{◌∙◌, sym}
use Rattle.fits_card.proofs.FillLemmas.{spaces_counted}
use Rattle.fits_card.proofs.fill.Fill.of.Goals as goal

pub returns-then-are_spaces : goal.returns-then-are_spaces
returns-then-are_spaces c = spaces_counted c.args.bytes.now (sym c.are_spaces.ensures ∙ c.if-are_spaces.true)
