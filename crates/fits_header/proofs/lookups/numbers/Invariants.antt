use Rattle.std.proofs.Common.{◌≡◌, map, take}
use Rattle.fits_header.specs.declared.entry.Entry.{Entry}
use Rattle.fits_header.proofs.lookups.numbers.Given as goal

abbrev pub invariant-loop-entry : goal.invariant-loop-entry
invariant-loop-entry l = l.names.items ≡ map (λ (e : Entry). e.name) (take l.entry-index l.entries)
