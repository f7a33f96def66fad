use Rattle.std.proofs.Common.{◌≡◌, ◌+◌, ◌%◌, All, length}
use Rattle.fits_card.specs.Header.{IsInnerCard, joined_cards}
use Rattle.fits_stream.specs.Intake.{supply, Takes}
use Rattle.fits_card.proofs.header_reading.read_front.Given as goal

abbrev pub invariant-block : goal.invariant-block
invariant-block g l = record {
  taken : Takes (supply (g.R.Source.state l.fn.source) l.fn.intake) (supply (g.R.Source.state l.source) l.intake) (joined_cards l.cards.items);
  inner : All IsInnerCard l.cards.items;
  full : length l.cards.items % 36 ≡ 0;
}

abbrev pub decreases-block : goal.decreases-block
decreases-block g l = length l.intake.ahead + l.intake.left
