-- Which blocks an edit of a rectangle has to scan (own).
use Rattle.std.specs.Prelude.{ℕ, ◌*◌, Bool, List, count_by}
use Rattle.std.specs.List.{range_with_len, list_any}
use Rattle.fits_pixels.specs.declared.layout.Layout.{Layout}
use Rattle.fits_pixels.specs.Layout.{block_pixels, block_count}
use Rattle.fits_pixels.specs.Block.{held}
use Rattle.fits_plane.specs.Rectangle.{is_inside}

-- does block k hold a pixel of the rectangle?
abbrev pub is_touched : List ℕ → List ℕ → List ℕ → ℕ → ℕ → ℕ → Bool
is_touched axes lo hi per n k =
    list_any (is_inside axes lo hi) (range_with_len (k * per) (held per n k))

-- how many of the first m blocks hold a pixel of the rectangle
abbrev pub touched_blocks : List ℕ → List ℕ → List ℕ → ℕ → ℕ → ℕ → ℕ
touched_blocks axes lo hi per n m = count_by (is_touched axes lo hi per n) (range_with_len 0 m)

-- how many blocks of the data unit hold a byte of the rectangle
abbrev pub rectangle_blocks : Layout → List ℕ → List ℕ → List ℕ → List ℕ → ℕ
rectangle_blocks layout bytes axes lo hi =
    touched_blocks axes lo hi (block_pixels layout.width) layout.pixels (block_count bytes)
