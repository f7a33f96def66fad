-- Said, so that a body that breaks it is refused at once.
use Rattle.std.proofs.Common.{rules}
use Rattle.fits_making.specs.CardEdit.{change_of}
use Rattle.fits_making.proofs.FirmLemmas.{tested_firm, unset_firm}
use Rattle.fits_making.proofs.changes.change_of.Goals as goal

pub returns-in-Put-clause-ok : goal.returns-in-Put-clause-ok
unfolding change_of
returns-in-Put-clause-ok c = search rules

pub returns-in-Put-clause-err : goal.returns-in-Put-clause-err
unfolding change_of
returns-in-Put-clause-err c = search rules

pub returns-in-Delete-clause-memory : goal.returns-in-Delete-clause-memory
returns-in-Delete-clause-memory c = λ memory. absurd (tested_firm _ _ c.delete_card.result c.delete_card.ensures.value memory)

pub returns-in-Move-clause-memory : goal.returns-in-Move-clause-memory
returns-in-Move-clause-memory c = λ memory. absurd (tested_firm _ _ c.move_card.result c.move_card.ensures.value memory)

pub returns-in-Unset-clause-memory : goal.returns-in-Unset-clause-memory
returns-in-Unset-clause-memory c = λ memory. absurd (unset_firm _ _ c.unset_keyword.result c.unset_keyword.ensures.value memory)
