use Rattle.std.proofs.Common.{◌≤◌, ◌+◌, ◌-◌, ℕ, Bool}
use Rattle.fits_plane.specs.Painting.{number_of}
use Rattle.fits_plane.specs.ShortRows.{RowWritten}
use Rattle.fits_pieces.specs.Painting.{PassesRun, RepaintsPieces, StaleIn}
use Rattle.fits_pieces.specs.Pieces.{bytes_with, HoldsPixels, IsCut}
use Rattle.fits_pieces.proofs.painting.paint_row.Given as goal

abbrev pub invariant-loop-x : goal.invariant-loop-x
invariant-loop-x l = record {
  cut : IsCut l.fn.layout l.gone.bytes l.pieces.items;
  held : HoldsPixels l.fn.layout.width l.start l.count l.pieces.items;
  written : RowWritten l.fn.layout.width l.start l.x (λ y. number_of l.painting (l.rank + y)) (bytes_with l.initial.pieces.items l.gone.bytes) (bytes_with l.pieces.items l.gone.bytes);
  repainted : RepaintsPieces l.initial.pieces.items l.pieces.items;
  stale : (test : ℕ → Bool) → StaleIn test l.initial.pieces.items → PassesRun l.fn.layout.width l.start l.count test → StaleIn test l.pieces.items;
  within : l.x ≤ l.count;
}

abbrev pub decreases-loop-x : goal.decreases-loop-x
decreases-loop-x l = l.count - l.x
