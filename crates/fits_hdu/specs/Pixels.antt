-- The pixels of an integer image, and what may be written to them (FITS Standard 4.0, sections 4.4.2.5 and 5.2; own).
use Rattle.std.specs.Prelude.{◌≡◌, ℕ, not, ℤ, List, Option, None, Some, Result, Ok, Err, IsOk, if◌then◌else◌}
use Rattle.fits_plane.specs.Paint.{can_store_paint, has_count, painted_number}
use Rattle.fits_plane.specs.Rectangle.{lies_within, rectangle_size, rectangle_values, rectangle_written}
use Rattle.fits_plane.specs.declared.lent_paint.LentPaint.{LentPaint}
use Rattle.fits_rules.specs.declared.array_shape.Shape.{Shape}
use Rattle.fits_passing.specs.Hdu.{HduParts}
use Rattle.fits_image.specs.Kind.{kind_in, offset_of, width_of}
use Rattle.fits_image.specs.declared.kind.Kind.{Kind}
use Rattle.fits_hdu.specs.declared.pixel_fault.PixelFault.{PixelFault}
use Rattle.fits_hdu.specs.declared.pixel_fault.PixelFault.TheVariants.{NotImage, BadRectangle, WrongCount, OutOfRange, Memory}

-- a number for each pixel of a rectangle, by its rank, in place of those that stood there
abbrev pub with_numbers : Shape → Kind → List ℕ → List ℕ → (ℕ → ℤ) → HduParts → HduParts
with_numbers shape kind lo hi number hdu =
    record hdu { data_unit = rectangle_written (width_of kind) shape.axes lo hi number hdu.data_unit }

-- a rectangle is read
abbrev pub rect_by : Option Kind → Shape → List ℕ → List ℕ → HduParts → Result (List ℤ) PixelFault
rect_by None shape lo hi hdu = Err NotImage
rect_by (Some kind) shape lo hi hdu =
    if lies_within shape.axes lo hi then Ok (rectangle_values (width_of kind) hdu.data_unit shape.axes lo hi (offset_of kind)) else Err BadRectangle

-- the values of a rectangle, in file order, or the first test that fails
unfoldable pub rect_of : Shape → List ℕ → List ℕ → HduParts → Result (List ℤ) PixelFault
rect_of shape lo hi hdu = rect_by (kind_in shape hdu.header.cards) shape lo hi hdu

-- reading a rectangle may end so: by the test that fails, or out of memory where none does
abbrev pub RectFails : Result (List ℤ) PixelFault → PixelFault → Type 0
RectFails answer Memory = IsOk answer
RectFails answer why = answer ≡ Err why

-- a rectangle is painted
abbrev pub painted_by : Option Kind → Shape → List ℕ → List ℕ → LentPaint → HduParts → Result HduParts PixelFault
painted_by None shape lo hi paint hdu = Err NotImage
painted_by (Some kind) shape lo hi paint hdu =
    if not (lies_within shape.axes lo hi) then Err BadRectangle
    else if not (has_count paint (rectangle_size lo hi)) then Err WrongCount
    else if not (can_store_paint (width_of kind) (offset_of kind) paint) then Err OutOfRange
    else Ok (with_numbers shape kind lo hi (painted_number paint (offset_of kind)) hdu)

-- an HDU with a rectangle of its pixels painted, or the first test that fails
unfoldable pub painted : Shape → List ℕ → List ℕ → LentPaint → HduParts → Result HduParts PixelFault
painted shape lo hi paint hdu = painted_by (kind_in shape hdu.header.cards) shape lo hi paint hdu
