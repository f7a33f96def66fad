use Rattle.std.proofs.Common.{◌≡◌, ◌≤◌, ◌<◌, ℕ, None, false, get_or, length}
use Rattle.fits_pieces.specs.Painting.{RescansPiece}
use Rattle.fits_pieces.proofs.rescanning.rescan_pieces.Given as goal

abbrev pub invariant-loop-j : goal.invariant-loop-j
invariant-loop-j l = record {
  long : length l.pieces.items ≡ length l.initial.pieces.items;
  many : length l.marks.items ≡ length l.initial.pieces.items;
  scanned : (i : ℕ) → i < l.j → RescansPiece (get_or l.initial.pieces.items i None) (get_or l.pieces.items i None) (get_or l.marks.items i false);
  rest : (i : ℕ) → l.j ≤ i → get_or l.pieces.items i None ≡ get_or l.initial.pieces.items i None;
}
