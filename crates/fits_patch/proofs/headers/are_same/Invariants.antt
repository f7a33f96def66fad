use Rattle.std.proofs.Common.{◌≡◌, take}
use Rattle.fits_patch.proofs.headers.are_same.Given as goal

abbrev pub invariant-loop-index : goal.invariant-loop-index
invariant-loop-index l = record {
  alike : take l.index l.cards ≡ take l.index l.fn.others.header.cards;
  same : l.others.header ≡ l.fn.others.header;
}
