use Rattle.std.proofs.Common.{◌≡◌, length}
use Rattle.fits_passing.specs.Headers.{read_cards}
use Rattle.fits_tell.proofs.AskedLemmas.{NoneAsked}
use Rattle.fits_tell.proofs.seeking.extension_number.Given as goal

abbrev pub invariant-loop-i : goal.invariant-loop-i
invariant-loop-i l = record {
  same : read_cards l.headers.items ≡ read_cards l.fn.headers.items;
  size : length l.headers.items ≡ length l.fn.headers.items;
  none : NoneAsked (read_cards l.fn.headers.items) l.asked l.i;
}
