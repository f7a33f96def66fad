use Rattle.std.proofs.Common.{◌≡◌, ◌*◌, true}
use Rattle.fits_card.specs.Change.{cards_after}
use Rattle.fits_header.specs.State.{ReadsUpTo}
use Rattle.fits_table.specs.Kept.{keeps_each}
use Rattle.fits_table.proofs.keeping.keeps_each.Given as goal

abbrev pub invariant-loop-i : goal.invariant-loop-i
invariant-loop-i l = record {
  value : true ≡ keeps_each l.kind l.fn.header.header.cards (cards_after l.fn.header.header.cards l.change) l.i;
  work : ReadsUpTo l.fn.header l.header (4 * l.i);
}
