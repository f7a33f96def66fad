-- Rectangles of pixels out of a session and into it (own).
use Rattle.std.specs.Prelude.{◌≡◌, ◌⊎◌, ◌-◌, ◌^◌, ◌≤ℤ◌, ℕ, ℤ, pos, negsuc, Bool, List, length, All, None, Some, Ok, Err, Result, if◌then◌else◌}
use Rattle.fits_plane.specs.Rectangle.{lies_within, rectangle_values, IsRectangle}
use Rattle.fits_passing.specs.File.{FileParts}
use Rattle.fits_edit.specs.declared.edit.Edit.{Edit}
use Rattle.fits_edit.specs.declared.edit.Edit.TheVariants.{Hdu}
use Rattle.fits_edit.specs.declared.hdu_edit.HduEdit.TheVariants.{Pixels}
use Rattle.fits_edit.specs.declared.paint.Paint.TheVariants.{Write}
use Rattle.fits_making.specs.declared.refusal.Refusal.{Refusal}
use Rattle.fits_making.specs.declared.refusal.Refusal.TheVariants.{BadRect, Memory, Range, WrongCount}
use Rattle.fits_session.specs.Marked.{marked_after, marked_refusal}
use Rattle.fits_session.specs.Query.{rect_in, QueryFails}
use Rattle.fits_session.specs.Session.{file_of, marked_of}
use Rattle.fits_c.specs.Lines.{refusal_number}
use Rattle.fits_c.specs.Session.{Stays}
use Rattle.fits_c.specs.declared.live.Live.{Live}

-- a number with a sign has 64 bits
pub record IsSigned (number : ℤ) : Type 0 where
  pub least : negsuc (2 ^ 63 - 1) ≤ℤ number
  pub greatest : number ≤ℤ pos (2 ^ 63 - 1)

-- one without a sign has
pub record IsUnsigned (number : ℤ) : Type 0 where
  pub least : pos 0 ≤ℤ number
  pub greatest : number ≤ℤ pos (2 ^ 64 - 1)

-- why the values of a rectangle don't fill room for so many numbers of C's: there are more or fewer, one of them has no such number, or the
-- query is refused
abbrev pub RectStops : (ℤ → Type 0) → Result (List ℤ) Refusal → ℕ → Refusal → Type 0
RectStops Fits answer size WrongCount = (values : List ℤ) × (answer ≡ Ok values) × (length values ≡ size → ⊥)
RectStops Fits answer size Range = (values : List ℤ) × (answer ≡ Ok values) × (All Fits values → ⊥)
RectStops Fits answer size why = QueryFails answer why

-- the values of a rectangle of HDU h fill the room, or they don't
pub record RectComesTo (Fits : ℤ → Type 0) (old : Live) (h : ℕ) (lo hi : List ℕ) (number : ℕ) (room : List ℤ) (new : Live) : Type 0 where
  pub stays : Stays old new
  pub given : ((number ≡ 0) × (rect_in (file_of old.session) h lo hi ≡ Ok room))
      ⊎ ((why : Refusal) × (number ≡ refusal_number why) × RectStops Fits (rect_in (file_of old.session) h lo hi) (length room) why)

-- the values of a rectangle of HDU h are written
abbrev pub write_edit : ℕ → List ℕ → List ℕ → List ℤ → Edit
write_edit h lo hi values = Hdu h (Pixels lo hi (Write values))

-- they are, and the file is as that edit leaves it; or they aren't, by the first test that fails or since memory was refused, and it stays
abbrev pub WriteComesTo : Live → ℕ → List ℕ → List ℕ → List ℤ → ℕ → Live → Type 0
WriteComesTo old h lo hi values number new =
    ((number ≡ 0) × (marked_refusal (marked_of old.session) (write_edit h lo hi values) ≡ None)
    × (marked_of new.session ≡ marked_after (marked_of old.session) (write_edit h lo hi values)))
    ⊎ ((why : Refusal) × (number ≡ refusal_number why) × Stays old new
    × ((marked_refusal (marked_of old.session) (write_edit h lo hi values) ≡ Some why) ⊎ (why ≡ Memory)))

-- the values of a rectangle, by whether it lies in the image
abbrev pub rect_answer : Bool → List ℤ → Result (List ℤ) Refusal
rect_answer within values = if within then Ok values else Err BadRect

-- HDU h is an image of these axes: so many bytes a pixel, the bytes, and the offset give the values of each rectangle
pub record IsImageIn (file : FileParts) (h : ℕ) (axes : List ℕ) : Type 0 where
  pub width : ℕ
  pub bytes : List ℕ
  pub offset : ℤ
  pub answers : (lo hi : List ℕ) → rect_in file h lo hi ≡ rect_answer (lies_within axes lo hi) (rectangle_values width bytes axes lo hi offset)

-- two corners make a rectangle of an image that HDU h is
pub record IsRectIn (file : FileParts) (h : ℕ) (lo hi : List ℕ) : Type 0 where
  pub axes : List ℕ
  pub image : IsImageIn file h axes
  pub lies : IsRectangle axes lo hi
