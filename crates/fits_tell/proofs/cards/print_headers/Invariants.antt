use Rattle.std.proofs.Common.{◌≡◌, ◌++◌, take, length}
use Rattle.fits_stream.specs.Stream.{Prints}
use Rattle.fits_passing.specs.Headers.{read_cards}
use Rattle.fits_tell.specs.Cards.{card_lines, changed_of, chosen_among, has_some}
use Rattle.fits_tell.proofs.cards.print_headers.Given as goal

abbrev pub invariant-loop-i : goal.invariant-loop-i
invariant-loop-i g l = record {
  same : read_cards l.headers.items ≡ read_cards l.fn.headers.items;
  count : length l.headers.items ≡ length l.fn.headers.items;
  printed : Prints (card_lines (chosen_among l.choice l.numbers (take l.i (read_cards l.fn.headers.items)))) (g.O.Sink.state l.fn.out) (g.O.Sink.state l.out);
  changed : l.changed.items ≡ l.fn.changed.items ++ changed_of (chosen_among l.choice l.numbers (take l.i (read_cards l.fn.headers.items)));
  any : l.any ≡ has_some (chosen_among l.choice l.numbers (take l.i (read_cards l.fn.headers.items)));
}
