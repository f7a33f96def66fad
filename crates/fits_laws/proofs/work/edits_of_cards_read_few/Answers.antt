use Rattle.std.proofs.Common.{arith}
use Rattle.fits_laws.proofs.BoundLemmas.{cards_closer, edit_none_falls, edit_others, kept_closer, stamp_closer}
use Rattle.fits_laws.proofs.work.edits_of_cards_read_few.Goals as goal

pub returns-clause-cards : goal.returns-clause-cards
returns-clause-cards c = λ primary hdu shape edit described. omega (arith, cards_closer primary hdu shape edit described)

pub returns-clause-cards_closer : goal.returns-clause-cards_closer
returns-clause-cards_closer c = cards_closer

pub returns-clause-stamp : goal.returns-clause-stamp
returns-clause-stamp c = λ primary hdu shape described. omega (arith, stamp_closer primary hdu)

pub returns-clause-stamp_closer : goal.returns-clause-stamp_closer
returns-clause-stamp_closer c = stamp_closer

pub returns-clause-kept : goal.returns-clause-kept
returns-clause-kept c = kept_closer

pub returns-clause-others : goal.returns-clause-others
returns-clause-others c = edit_others

pub returns-clause-grows : goal.returns-clause-grows
returns-clause-grows c = edit_none_falls
