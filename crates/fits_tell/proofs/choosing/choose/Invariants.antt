use Rattle.std.proofs.Common.{◌≡◌, ◌++◌, false}
use Rattle.fits_header.specs.Links.{header_links}
use Rattle.fits_tell.specs.Cards.{chosen_from}
use Rattle.fits_tell.proofs.CardLemmas.{to_come}
use Rattle.fits_tell.proofs.choosing.choose.Given as goal

abbrev pub invariant-loop-index : goal.invariant-loop-index
invariant-loop-index l =
    (l.cards.header ≡ l.fn.cards.header)
    × (l.shown.items ++ to_come l.choice l.h l.index l.is_open l.before l.fn.cards.header.cards
    ≡ chosen_from l.choice l.h 1 false l.fn.cards.header.cards (header_links l.fn.cards.header.cards))
