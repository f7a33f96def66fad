use Rattle.std.proofs.Common.{◌≡◌, All, drop, take}
use Rattle.fits_header.specs.Notes.{total_in}
use Rattle.fits_header.proofs.TotalLemmas.{IsSmall}
use Rattle.fits_header.proofs.notes.total_among.Given as goal

abbrev pub invariant-loop-index : goal.invariant-loop-index
invariant-loop-index l = record {
  value : l.total ≡ total_in (take l.index (drop l.from l.notes.items));
  each : All IsSmall (take l.index (drop l.from l.notes.items));
}
