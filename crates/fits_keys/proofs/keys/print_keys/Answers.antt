use Rattle.std.proofs.Common.{refl, subst}
use Rattle.fits_passing.specs.Headers.{read_cards, ShowsHeaders}
use Rattle.fits_keys.proofs.keys.print_keys.Goals as goal

-- the file doesn't open
pub returns-in-Some-clause-err : goal.returns-in-Some-clause-err
returns-in-Some-clause-err g c = record {
  headers = read_cards c.in-Ok.headers.headers.items;
  shows = rw c.in-Some.is at c.in-Ok.ensures.ok;
  read = c.in-Ok.ensures.quiet;
  printed = refl;
}
