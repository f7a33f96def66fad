use Rattle.std.proofs.Common.{◌≡◌, ◌++◌, drop, filter}
use Rattle.fits_header.specs.Index.{places_in, is_named}
use Rattle.fits_header.proofs.lookups.positions_in.Given as goal

abbrev pub invariant-loop-entry : goal.invariant-loop-entry
invariant-loop-entry l = l.places.items ++ places_in (filter (is_named l.name) (drop l.entry-index l.rest)) ≡ places_in (filter (is_named l.name) l.rest)
