use Rattle.std.proofs.Common.{◌∙◌, length, refl}
use Rattle.fits_card.specs.Fill.{fill_bytes}
use Rattle.fits_card.proofs.HeaderReadingLemmas.{ended_whole}
use Rattle.fits_card.proofs.header_reading.ended_list.Goals as goal

-- cards, END and the rest of the last block are a header
pub of-requires-2 : goal.of-requires-2
of-requires-2 c = ended_whole c.args.cards.items c.args.block.now c.card_at.result (fill_bytes c.in_ok-fill.fill) c.args.count (length c.args.cards.items) c.requires.whole c.requires.ends c.requires.inner refl c.requires.full c.card_at.ensures (c.in_ok-fill.ensures ∙ c.split_at.ensures.back)
