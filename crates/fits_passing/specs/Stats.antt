-- The statistics of an image of integers (own).
use Rattle.std.specs.Prelude.{◌≡◌, ℤ, List, Option, Ok}
use Rattle.std.specs.Option.{option_map}
use Rattle.fits_pixels.specs.Pixels.{pixels}
use Rattle.fits_pixels.specs.Statistics.{value_statistics}
pub use Rattle.fits_pixels.specs.declared.value_summary.ValueSummary.{ValueSummary as Stats}
use Rattle.fits_rules.specs.Class.{is_primary}
use Rattle.fits_rules.specs.Shape.{shape_of}
use Rattle.fits_rules.specs.declared.array_shape.Shape.{Shape}
use Rattle.fits_passing.specs.Hdu.{HduParts}
use Rattle.fits_image.specs.Kind.{kind_in, offset_of}
use Rattle.fits_passing.specs.Layout.{layout_of}

-- the stored numbers of the pixels, in order
abbrev pub stored_numbers : Shape → HduParts → List ℤ
stored_numbers shape hdu = let layout = layout_of shape hdu.header.cards in pixels layout.width hdu.data_unit 0 layout.pixels

-- the statistics of an image of integers: of its values, stored numbers plus the offset (4.4.2.5)
unfoldable pub stats_of : Shape → HduParts → Option Stats
stats_of shape hdu =
    option_map (λ kind. value_statistics (offset_of kind) (layout_of shape hdu.header.cards).blank (stored_numbers shape hdu)) (kind_in shape hdu.header.cards)

-- these are the statistics of an HDU, by the shape that its cards describe: none where it is no image of integers
pub record AreStatsOf (stats : Option Stats) (hdu : HduParts) : Type 0 where
  pub shape : Shape
  pub described : shape_of (is_primary shape.class) hdu.header.cards ≡ Ok shape
  pub are : stats ≡ stats_of shape hdu
