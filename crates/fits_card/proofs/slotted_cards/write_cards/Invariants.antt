use Rattle.std.proofs.Common.{◌≡◌, ◌+◌, take}
use Rattle.fits_card.specs.Header.{joined_cards}
use Rattle.fits_stream.specs.Stream.{Prints}
use Rattle.fits_card.proofs.slotted_cards.write_cards.Given as goal

abbrev pub invariant-loop-index : goal.invariant-loop-index
invariant-loop-index g l = record {
  printed : Prints (joined_cards (take l.index l.cards.items)) (g.W.Sink.state l.fn.sink) (g.W.Sink.state l.sink);
  counted : l.reads.total ≡ l.fn.reads.total + l.index;
}
