-- The cards of an image extension, as values are written (FITS Standard 4.0, sections 4.4.1.2, 4.4.2.5, 5.2.5 and 7.1; own).
use Rattle.std.specs.Prelude.{ℕ, ◌+◌, ◌*◌, ◌&&◌, Bool, nat_le, ℤ, pos, List, [], ◌∷◌, ◌++◌, length, codes, None, unwrap_or}
use Rattle.std.specs.Fmt.{signed_decimal}
use Rattle.std.specs.List.{list_all}
use Rattle.fits_rules.specs.Shape.{axis_name}
use Rattle.fits_rules.specs.declared.array_shape.Shape.{Shape}
use Rattle.fits_rules.specs.declared.class.Class.TheVariants.{Image}
use Rattle.fits_value.specs.Written.{write_says}
use Rattle.fits_value.specs.declared.value.Value.{Value}
use Rattle.fits_value.specs.declared.value.Value.TheVariants.{Integer, Str}
use Rattle.fits_image.specs.Kind.{offset_of, width_of}
use Rattle.fits_image.specs.declared.kind.Kind.{Kind}
use Rattle.fits_image.specs.declared.kind.Kind.TheVariants.{I8, U16, U32, U64}

-- axes that a header may describe: 999 at most, each up to the greatest integer of 64 bits (4.4.1.1; own)
unfoldable pub are_axes : List ℕ → Bool
are_axes axes = nat_le (length axes) 999 && list_all (λ axis. nat_le axis 9223372036854775807) axes

-- what the cards of an image describe (7.1)
abbrev pub image_shape : Kind → List ℕ → Shape
image_shape kind axes = record { class = Image; bitpix = pos (8 * width_of kind); axes = axes; pcount = 0; gcount = 1 }

-- the cards that a value is written to under a name, without a comment (4.2)
abbrev pub written : List ℕ → Value → List (List ℕ)
written name value = unwrap_or (write_says name value None) []

-- a number's
abbrev pub written_number : List ℕ → ℤ → List (List ℕ)
written_number name number = written name (Integer (signed_decimal number))

-- NAXISn and those after it, with their axes (4.4.1.1)
abbrev pub axis_cards : ℕ → List ℕ → List (List ℕ)
axis_cards n [] = []
axis_cards n (axis ∷ axes) = written_number (axis_name n) (pos axis) ++ axis_cards (n + 1) axes

-- BITPIX, NAXIS and the axes (4.4.1.1)
abbrev pub shape_cards : Kind → List ℕ → List (List ℕ)
shape_cards kind axes =
    written_number (codes "BITPIX  ") (pos (8 * width_of kind))
    ++ (written_number (codes "NAXIS   ") (pos (length axes))
    ++ axis_cards 1 axes)

-- BSCALE and BZERO
abbrev pub scaling_cards : ℤ → List (List ℕ)
scaling_cards offset = written_number (codes "BSCALE  ") (pos 1) ++ written_number (codes "BZERO   ") offset

-- those of a kind that has an offset (5.2.5)
abbrev pub offset_cards : Kind → List (List ℕ)
offset_cards I8 = scaling_cards (offset_of I8)
offset_cards U16 = scaling_cards (offset_of U16)
offset_cards U32 = scaling_cards (offset_of U32)
offset_cards U64 = scaling_cards (offset_of U64)
offset_cards kind = []

-- the cards of a new image: the mandatory ones in their order, then the offset's (4.4.1.2, 5.2.5)
unfoldable pub image_cards : Kind → List ℕ → List (List ℕ)
image_cards kind axes =
    written (codes "XTENSION") (Str (codes "IMAGE"))
    ++ (shape_cards kind axes
    ++ (written_number (codes "PCOUNT  ") (pos 0)
    ++ (written_number (codes "GCOUNT  ") (pos 1)
    ++ offset_cards kind)))
