use Rattle.std.proofs.Common.{arith}
use Rattle.fits_card.specs.Fill.{fill_bytes}
use Rattle.fits_card.proofs.HeaderLemmas.{new_whole}
use Rattle.fits_card.proofs.card_list.CardList.new.Goals as goal

pub of-requires : goal.of-requires
of-requires c = new_whole c.args.cards.items c.padded.result (fill_bytes c.blank-fill.result) c.len.result c.requires c.padded.ensures (omega arith) c.blank-fill.ensures
