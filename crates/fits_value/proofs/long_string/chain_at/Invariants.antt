use Rattle.std.proofs.Common.{length, drop, ◌-◌, ◌≡◌, ◌≤◌, ◌+◌}
use Rattle.fits_value.specs.Says.{joined, links_of, links_after}
use Rattle.fits_value.specs.Chaining.{JoinsTo}
use Rattle.fits_value.proofs.long_string.chain_at.Given as goal

abbrev pub invariant-links : goal.invariant-links
invariant-links l = record {
  header : l.cards.header ≡ l.initial.cards.header;
  room : l.cards.room ≡ l.initial.cards.room;
  within : l.place ≤ length l.cards.header.cards;
  joins : JoinsTo (joined l.initial.piece l.initial.comment (links_of (drop l.first l.cards.header.cards))) l.joined.items l.piece l.comment (drop l.place l.cards.header.cards);
  links : links_after l.initial.piece (links_of (drop l.first l.cards.header.cards)) + l.first ≡ l.place + links_after l.piece (links_of (drop l.place l.cards.header.cards));
  least : l.initial.cards.reads ≤ l.cards.reads;
  most : l.cards.reads + l.first ≤ l.initial.cards.reads + l.place;
}

abbrev pub decreases-links : goal.decreases-links
decreases-links l = length l.cards.header.cards - l.place
