use Rattle.std.proofs.Common.{arith}
use Rattle.fits_card.proofs.HeaderLemmas.{length-header_bytes}
use Rattle.fits_card.proofs.card_list.CardList.len.Goals as goal

pub returns-clause-within : goal.returns-clause-within
returns-clause-within c = rw (← c.self.view_is) (omega (arith, length-header_bytes _ c.self.invariant.whole))
