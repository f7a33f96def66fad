use Rattle.std.proofs.Common.{◌≡◌}
use Rattle.std.specs.Prelude.{map}
use Rattle.std.specs.List.{range_with_len}
use Rattle.fits_pixels.specs.Block.{leaf_of}
use Rattle.fits_pixels.specs.Summary.{all_joined, pixels_joined, words_joined, halves_joined}
use Rattle.fits_plane.specs.Leaves.{leaf_unit}
use Rattle.fits_pieces.proofs.passing_pieces.scan_piece.Given as goal

abbrev pub invariant-loop-k : goal.invariant-loop-k
invariant-loop-k l = l.leaf ≡ all_joined leaf_unit (halves_joined pixels_joined words_joined) (map (leaf_of l.layout l.piece) (range_with_len 0 l.k))
