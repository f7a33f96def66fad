use Rattle.std.proofs.Common.{◌≤◌, ◌*◌, ◌-◌, Some}
use Rattle.std.specs.Prelude.{pos}
use Rattle.fits_pixels.specs.Pixels.{pixels}
use Rattle.fits_pixels.proofs.ScanLemmas.{Scanned}
use Rattle.fits_pixels.proofs.pixels_8.scan_few.Given as goal

abbrev pub invariant-loop-i : goal.invariant-loop-i
invariant-loop-i l = record {
  scanned : Scanned (Some (pos l.blank)) (pos 255) (pos 0) (pos l.least) (pos l.greatest) (pos l.sum) l.blanks (pixels 1 l.block l.i (l.held - l.i)) (pixels 1 l.block 0 l.held);
  bound : l.sum ≤ 255 * l.i;
  few : l.blanks ≤ l.i;
}
