use Rattle.std.proofs.Common.{◌≡◌, ◌≤◌, ◌+◌, ◌++◌, ℕ, length}
use Rattle.fits_extended.specs.Stands.{history_after, lines_in, pieces}
use Rattle.fits_extended.proofs.history.history_after.Given as goal

abbrev pub invariant-pieces : goal.invariant-pieces
invariant-pieces l = record {
  more : ℕ;
  enough : length l.rest ≤ more;
  so_far : lines_in l.lines.items ++ history_after l.hdu l.count l.place (pieces more l.rest) ≡ history_after l.hdu l.count l.filled (pieces (length l.text) l.text);
  within : l.place + length l.rest ≤ l.filled + length l.text;
}

abbrev pub decreases-pieces : goal.decreases-pieces
decreases-pieces l = length l.rest
