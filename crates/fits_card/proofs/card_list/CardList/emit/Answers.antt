use Rattle.fits_card.proofs.FillLemmas.{fill_short}
use Rattle.fits_card.proofs.card_list.CardList.emit.Goals as goal

pub bytes-requires-2 : goal.bytes-requires-2
bytes-requires-2 g c = fill_short _ c.self.invariant.whole
