-- A rectangle of pixels with what they are given (own).
use Rattle.std.specs.Prelude.{◌≡◌, ◌<◌, ℕ, ℤ, Bool, true}
use Rattle.fits_pixels.specs.declared.layout.Layout.{Layout}
use Rattle.fits_pixels.specs.Layout.{block_pixels}
use Rattle.fits_pixels.specs.Pixels.{IsStorable, IsWidth}
use Rattle.fits_plane.specs.declared.painting.Painting.{Painting}
use Rattle.fits_plane.specs.DataBytes.{DataState}
use Rattle.fits_plane.specs.Paint.{has_count, painted_number}
use Rattle.fits_plane.specs.Plane.{PlaneState, IsPainted}
use Rattle.fits_plane.specs.Rectangle.{product, rectangle_size, IsRectangle}
use Rattle.fits_plane.specs.Work.{is_touched}

-- the number that its pixel of a rank is to store
abbrev pub number_of : Painting → ℕ → ℤ
number_of it = painted_number it.paint.now it.offset

-- it is a rectangle of all pixels of a layout, with a value for each of its own and no more, and they can store them
pub record Suits (layout : Layout) (it : Painting) : Type 0 where
  pub width : IsWidth layout.width
  pub rectangle : IsRectangle it.axes.now it.lo.now it.hi.now
  pub all : product it.axes.now ≡ layout.pixels
  pub count : has_count it.paint.now (rectangle_size it.lo.now it.hi.now) ≡ true
  pub storable : (k : ℕ) → k < rectangle_size it.lo.now it.hi.now → IsStorable layout.width (number_of it k)

-- does block k hold a pixel of it?
abbrev pub touches : Painting → Layout → ℕ → Bool
touches it layout k = is_touched it.axes.now it.lo.now it.hi.now (block_pixels layout.width) layout.pixels k

-- a data unit by its parts: its bytes with a layout, and how many nodes of its tree were joined so far
abbrev pub plane_by : Layout → DataState → ℕ → PlaneState
plane_by layout store joins =
    record { bytes = store.bytes; layout = layout; scans = store.scans; reads = store.reads; joins = joins }

-- it was painted, and nothing else
abbrev pub Paints : Painting → PlaneState → PlaneState → Type 0
Paints it old new = IsPainted it.axes.now it.lo.now it.hi.now (number_of it) old new
