use Rattle.std.proofs.Common.{sym}
use Rattle.fits_card.proofs.FillLemmas.{spaces_all}
use Rattle.fits_card.proofs.fill.Fill.is_blank.Goals as goal

pub returns-in-Spaces : goal.returns-in-Spaces
returns-in-Spaces c = rw (c.in-Spaces.is) (sym (spaces_all c.in-Spaces.field-0))
