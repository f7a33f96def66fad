use Rattle.std.proofs.Common.{◌∙◌, ap}
use Rattle.fits_tell.specs.Called.{called_words}
use Rattle.fits_tell.proofs.CalledLemmas.{called_kept, called_quiet}
use Rattle.fits_tell.proofs.called_outline.CalledOutline.read.Goals as goal

pub returns-clause-ok : goal.returns-clause-ok
returns-clause-ok g c = called_kept _ _ _ _ _ _ c.in_ok-cards.ensures.ok c.in-Ok.ensures.same c.len.ensures.value c.byte_len.ensures (c.in-Ok.ensures.words ∙ ap (λ b. called_words b c.in_ok-cards.field-0.cards.header.cards) c.is_primary.ensures)

-- memory was refused
pub returns-in_default-clause-err : goal.returns-in_default-clause-err
returns-in_default-clause-err g c = called_quiet _ _ _ _ c.in_ok-cards.ensures.ok
