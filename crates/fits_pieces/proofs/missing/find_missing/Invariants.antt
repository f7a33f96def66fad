use Rattle.std.proofs.Common.{◌≡◌, ◌≤◌, ◌<◌, ◌*◌, ◌/◌, ℕ, length, true}
use Rattle.std.specs.Prelude.{filter, is_some, map}
use Rattle.std.specs.List.{range_with_len}
use Rattle.fits_plane.specs.Rectangle.{is_inside, row_size}
use Rattle.fits_plane.proofs.PlaceLemmas.{number}
use Rattle.fits_pieces.specs.Piece.{piece_pixels}
use Rattle.fits_pieces.specs.Pieces.{is_missing}
use Rattle.fits_pieces.proofs.missing.find_missing.Given as goal

abbrev pub invariant-loop-row : goal.invariant-loop-row
invariant-loop-row l = record {
  found : l.found.items ≡ filter (is_missing l.axes l.lo l.hi l.fn.layout (map is_some l.pieces.items)) (range_with_len 0 l.next);
  covered : (i : ℕ) → i < l.fn.layout.pixels → is_inside l.axes l.lo l.hi i ≡ true → number l.axes l.lo l.hi i < l.row * row_size l.lo l.hi → i / piece_pixels l.fn.layout.width < l.next;
  limit : l.next ≤ length l.pieces.items;
}
