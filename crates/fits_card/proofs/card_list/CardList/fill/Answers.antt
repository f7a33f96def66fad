use Rattle.fits_card.proofs.FillLemmas.{fill_short}
use Rattle.fits_card.proofs.card_list.CardList.fill.Goals as goal

pub bytes-requires : goal.bytes-requires
bytes-requires c = fill_short _ c.self.invariant.whole
