use Rattle.std.proofs.Common.{◌≡◌, ◌==◌, false, take}
use Rattle.std.specs.List.{list_any}
use Rattle.fits_header.specs.declared.entry.Entry.{Entry}
use Rattle.fits_header.proofs.lookups.entry_at.Given as goal

abbrev pub invariant-loop-entry : goal.invariant-loop-entry
invariant-loop-entry l = list_any (λ (x : Entry). x.place == l.place) (take l.entry-index l.entries) ≡ false
