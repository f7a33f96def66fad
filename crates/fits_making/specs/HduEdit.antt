-- Edits of one HDU: what each makes of it (own).
use Rattle.std.specs.Prelude.{Result, Ok, Err, ℕ, Bool, true, false, List, if◌then◌else◌}
use Rattle.fits_passing.specs.Hdu.{HduParts, hdu_after, keeps_shape}
use Rattle.fits_making.specs.declared.refusal.Refusal.{Refusal}
use Rattle.fits_card.specs.Change.{cards_after}
use Rattle.fits_card.specs.declared.change.Change.{Change}
use Rattle.fits_rules.specs.Shape.{shape_of}
use Rattle.fits_rules.specs.declared.array_shape.Shape.{Shape}
use Rattle.fits_hdu.specs.Pixels.{painted}
use Rattle.fits_hdu.specs.Reshape.{reshaped}
use Rattle.fits_hdu.specs.Stamp.{stamped}
use Rattle.fits_hdu.specs.declared.pixel_fault.PixelFault.{PixelFault}
use Rattle.fits_hdu.specs.declared.pixel_fault.PixelFault.TheVariants as pixel
use Rattle.fits_hdu.specs.declared.reshape_fault.ReshapeFault.{ReshapeFault}
use Rattle.fits_hdu.specs.declared.reshape_fault.ReshapeFault.TheVariants as reshape
use Rattle.fits_image.specs.declared.kind.Kind.{Kind}
use Rattle.fits_making.specs.CardEdit.{change_of, HasCardSizes}
use Rattle.fits_edit.specs.Paint.{plane_paint}
use Rattle.fits_edit.specs.declared.hdu_edit.HduEdit.{HduEdit}
use Rattle.fits_edit.specs.declared.hdu_edit.HduEdit.TheVariants.{Cards, Keep, Pixels, Release, Reshape, Stamp}
use Rattle.fits_edit.specs.declared.paint.Paint.{Paint}
use Rattle.fits_making.specs.declared.refusal.Refusal.TheVariants as refusal

-- what was made of an HDU; where nothing was it stays
abbrev pub made_or : HduParts → Result HduParts Refusal → HduParts
made_or hdu (Ok made) = made
made_or hdu (Err why) = hdu

-- an HDU with its cards changed; the shape that they describe has to stay
abbrev pub hdu_changed : Bool → HduParts → Result Change Refusal → Result HduParts Refusal
hdu_changed primary hdu (Err why) = Err why
hdu_changed primary hdu (Ok change) =
    if keeps_shape primary hdu.header.cards (cards_after hdu.header.cards change) then Ok (hdu_after change hdu) else Err refusal.Shape

-- a test of pixels that fails, as a refusal
abbrev pub refusal_of_pixels : PixelFault → Refusal
refusal_of_pixels pixel.NotImage = refusal.NotImage
refusal_of_pixels pixel.BadRectangle = refusal.BadRect
refusal_of_pixels pixel.WrongCount = refusal.WrongCount
refusal_of_pixels pixel.OutOfRange = refusal.Range
refusal_of_pixels pixel.Memory = refusal.Memory

-- pixels, or their refusal
abbrev pub pixels_made : {X : Type 0} → Result X PixelFault → Result X Refusal
pixels_made (Ok made) = Ok made
pixels_made (Err why) = Err (refusal_of_pixels why)

-- what is made by the shape that cards describe; an HDU without a shape is no image
abbrev pub shaped : {X : Type 0} → Result Shape ℕ → (Shape → Result X PixelFault) → Result X Refusal
shaped (Ok shape) make = pixels_made (make shape)
shaped (Err place) make = Err refusal.NotImage

-- a test of a reshape that fails, as a refusal
abbrev pub refusal_of_reshape : ReshapeFault → Refusal
refusal_of_reshape reshape.NotImage = refusal.NotImage
refusal_of_reshape reshape.BadShape = refusal.Shape
refusal_of_reshape reshape.OutOfRange = refusal.Range
refusal_of_reshape reshape.TooLarge = refusal.TooLarge
refusal_of_reshape reshape.Memory = refusal.Memory

-- an HDU that is made another array, or the refusal
abbrev pub reshape_made : Result HduParts ReshapeFault → Result HduParts Refusal
reshape_made (Ok made) = Ok made
reshape_made (Err why) = Err (refusal_of_reshape why)

-- by the shape that cards describe; an HDU without a shape is no array
abbrev pub hdu_reshaped : Result Shape ℕ → Kind → List ℕ → HduParts → Result HduParts Refusal
hdu_reshaped (Ok shape) kind axes hdu = reshape_made (reshaped kind axes shape hdu)
hdu_reshaped (Err place) kind axes hdu = Err refusal.NotImage

-- an HDU with the pixels of a rectangle painted, or why not
abbrev pub hdu_painted : Bool → List ℕ → List ℕ → Paint → HduParts → Result HduParts Refusal
hdu_painted primary lo hi paint hdu = shaped (shape_of primary hdu.header.cards) (λ shape. painted shape lo hi (plane_paint paint) hdu)

-- what an edit makes of an HDU, the primary one or an extension, or the first of its own tests that fails
unfoldable pub hdu_made : Bool → HduEdit → HduParts → Result HduParts Refusal
hdu_made primary (Cards edit) hdu = hdu_changed primary hdu (change_of hdu.header.cards edit)
hdu_made primary (Pixels lo hi paint) hdu = hdu_painted primary lo hi paint hdu
hdu_made primary (Reshape kind axes) hdu = hdu_reshaped (shape_of primary hdu.header.cards) kind axes hdu
hdu_made primary Stamp hdu = Ok (stamped hdu)
hdu_made primary Keep hdu = Ok (stamped hdu)
hdu_made primary Release hdu = Ok hdu

-- whether an edit needs the data of its HDU: pixels, or what is known of them
abbrev pub needs_data : HduEdit → Bool
needs_data (Pixels lo hi paint) = true
needs_data (Reshape kind axes) = true
needs_data Stamp = true
needs_data Keep = true
needs_data edit = false

-- the cards and names that it brings have their sizes
abbrev pub HasHduSizes : HduEdit → Type 0
HasHduSizes (Cards edit) = HasCardSizes edit
HasHduSizes edit = Unit {0}
