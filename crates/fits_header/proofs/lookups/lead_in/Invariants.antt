use Rattle.std.proofs.Common.{◌≡◌, drop, filter}
use Rattle.fits_header.specs.Index.{first_value, is_named}
use Rattle.fits_header.proofs.lookups.lead_in.Given as goal

abbrev pub invariant-loop-entry : goal.invariant-loop-entry
invariant-loop-entry l = first_value (filter (is_named l.name) (drop l.entry-index l.rest)) ≡ first_value (filter (is_named l.name) l.rest)
