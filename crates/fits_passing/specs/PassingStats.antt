-- The statistics of an image that passes by, of which no more than a piece is held at once (own).
use Rattle.std.specs.Prelude.{ℕ, List, Option}
use Rattle.std.specs.Option.{option_map}
use Rattle.fits_pixels.specs.Pixels.{pixels}
use Rattle.fits_pixels.specs.Statistics.{value_statistics}
use Rattle.fits_rules.specs.declared.array_shape.Shape.{Shape}
use Rattle.fits_image.specs.Kind.{kind_in, offset_of}
use Rattle.fits_image.specs.declared.kind.Kind.{Kind}
use Rattle.fits_passing.specs.Layout.{layout_of}
use Rattle.fits_passing.specs.Stats.{Stats}
use Rattle.fits_passing.specs.declared.image_pixels.ImagePixels.{ImagePixels}

-- the pixels of a kind, read as these cards say
abbrev pub pixels_of_kind : Shape → List (List ℕ) → Kind → ImagePixels
pixels_of_kind shape cards kind = record { layout = layout_of shape cards; kind = kind }

-- how the pixels are read that a shape and cards describe, where they describe an image of integers
abbrev pub image_pixels : Shape → List (List ℕ) → Option ImagePixels
image_pixels shape cards = option_map (pixels_of_kind shape cards) (kind_in shape cards)

-- the statistics of a data unit whose pixels are read so: of their values, stored numbers plus the offset (4.4.2.5)
abbrev pub values_of : List ℕ → ImagePixels → Stats
values_of unit it = value_statistics (offset_of it.kind) it.layout.blank (pixels it.layout.width unit 0 it.layout.pixels)
