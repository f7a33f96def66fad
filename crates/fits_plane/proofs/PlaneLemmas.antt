-- A data unit that is edited: its layout stays, and so do the leaves of blocks that were left alone.
use Rattle.std.proofs.Common.{◌≡◌, ℕ, ◌%◌, List, length, arith, ◌∙◌, ap, inl, inr}
use Rattle.fits_pixels.specs.declared.layout.Layout.{Layout}
use Rattle.fits_pixels.specs.Pixels.{IsWidth}
use Rattle.fits_pixels.specs.Layout.{IsLayout}
use Rattle.fits_plane.specs.Rectangle.{product, IsRectangle}
use Rattle.fits_plane.proofs.RowLemmas.{product_some}

-- a layout that has a pixel has a width
pub layout_width : (layout : Layout) (xs : List ℕ) (axes lo hi : List ℕ) → IsLayout layout xs → IsRectangle axes lo hi → product axes ≡ layout.pixels → IsWidth layout.width
layout_width layout xs axes lo hi h r all = elim h.width [
  | inl z ↦ absurd (omega (arith, h.no_pixels z, product_some axes lo hi r, all))
  | inr w ↦ w
]

-- a layout fits all bytes of the same length
pub layout_stays : (layout : Layout) (xs ys : List ℕ) → IsLayout layout xs → length ys ≡ length xs → IsLayout layout ys
layout_stays layout xs ys h e = record {
  width = h.width;
  no_pixels = h.no_pixels;
  room = h.room;
  used = omega (arith, h.used, e);
  whole = ap (λ n. n % 2880) e ∙ h.whole;
  limit = omega (arith, h.limit, e);
}
