use Rattle.fits_passing.proofs.ReadingLemmas.{outline_kept}
use Rattle.fits_passing.proofs.outline.Outline.read.Goals as goal

pub returns-clause-ok : goal.returns-clause-ok
returns-clause-ok g c =
    outline_kept _ _ _ c.in_ok-cards.field-0.unit_len _ _ c.in_ok-cards.field-0.cards.header c.in_ok-cards.field-0.shape c.in_ok-cards.ensures.ok c.len.ensures.value c.byte_len.ensures
