-- A new image extension: its cards, and zeros for its data (FITS Standard 4.0, sections 4.4.1.2 and 7.1; own).
use Rattle.std.specs.Prelude.{ℕ, List, replicate}
use Rattle.fits_card.specs.Header.{new_header}
use Rattle.fits_rules.specs.Size.{data_length}
use Rattle.fits_image.specs.ImageCards.{image_cards, image_shape}
use Rattle.fits_image.specs.declared.kind.Kind.{Kind}
use Rattle.fits_passing.specs.Hdu.{HduParts}

-- a new image: each byte of its data unit is zero
unfoldable pub new_image : Kind → List ℕ → HduParts
new_image kind axes = record {
  header = new_header (image_cards kind axes);
  data_unit = replicate (data_length (image_shape kind axes)) 0;
}
