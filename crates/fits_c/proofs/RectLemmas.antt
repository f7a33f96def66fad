-- A rectangle of pixels that is read row by row into room of C's.
use Rattle.std.proofs.Common.{◌≡◌, ◌<◌, ◌≤◌, ◌⊎◌, ℕ, zero, suc, ◌+◌, ◌-◌, ◌*◌, ◌/◌, Bool, true, false, List, [], ◌∷◌, ◌++◌, length, map, All, refl, arith, sym, subst, ◌∙◌, ap, ℤ, Option, None, Some, Result, Ok, Err, inl, inr}
use Rattle.std.specs.Prelude.{ok_or, if◌then◌else◌}
use Rattle.std.specs.List.{range_with_len}
use Rattle.std.proofs.Math.Nat.{mul-le-mul_left}
use Rattle.std.proofs.lemmas.List.{append_assoc, map-append}
use Rattle.fits_plane.specs.Rectangle.{lies_within, place, rectangle_size, rectangle_values, row_count, row_size, value_at, IsRectangle}
use Rattle.fits_plane.proofs.BlockLemmas.{range-append}
use Rattle.fits_plane.proofs.CornerLemmas.{lies_within_decides}
use Rattle.fits_plane.proofs.ReadLemmas.{first_values, first_values-all, length-rectangle_values}
use Rattle.fits_plane.proofs.RowLemmas.{rectangle_size-rows, rows_are}
use Rattle.fits_rules.specs.Shape.{shape_of}
use Rattle.fits_rules.specs.declared.array_shape.Shape.{Shape}
use Rattle.fits_image.specs.Kind.{kind_in as hdu_kind, offset_of, width_of}
use Rattle.fits_image.specs.declared.kind.Kind.{Kind}
use Rattle.fits_hdu.specs.Pixels.{rect_by, rect_of}
use Rattle.fits_hdu.specs.declared.pixel_fault.PixelFault.TheVariants as pixel
use Rattle.fits_passing.specs.File.{is_primary_hdu, FileParts}
use Rattle.fits_passing.specs.Hdu.{HduParts}
use Rattle.fits_making.specs.HduEdit.{pixels_made, shaped}
use Rattle.fits_making.specs.declared.refusal.Refusal.{Refusal}
use Rattle.fits_making.specs.declared.refusal.Refusal.TheVariants.{BadName, BadRect, BadText, BadValue, EndCard, Memory, NoCard, NoHdu, NoKey, NotImage, PrimaryStays, Range, Shape as BadShape, TooLarge, WrongCount}
use Rattle.fits_session.specs.Edit.{hdu_of}
use Rattle.fits_session.specs.Query.{by_shape, in_hdu, kind_in, rect_in, shape_in, some_shape, QueryFails}
use Rattle.fits_c.specs.Pixels.{rect_answer, IsImageIn, IsRectIn, RectStops}
use Rattle.fits_c.specs.Rows.{row_corner, AreCorners}
use Rattle.fits_c.proofs.AxisLemmas.{corners_of}
use Rattle.fits_c.proofs.RowsLemmas.{row_follows, row_len_is, row_lies}

-- ---- an image

-- the kind that was found
kind_some : (found : Option Kind) (kind : Kind) → pixels_made (ok_or found pixel.NotImage) ≡ Ok kind → found ≡ Some kind
kind_some None kind e = absurd (cc)
kind_some (Some it) kind e = cc

-- what a rectangle answers by whether it lies in the image
rect_said : (within : Bool) (values : List ℤ) → pixels_made (if within then Ok values else Err pixel.BadRectangle) ≡ rect_answer within values
rect_said true values = refl
rect_said false values = refl

-- what one of an image does
rect_of_image : (shape : Shape) (hdu : HduParts) (kind : Kind) (lo hi : List ℕ) → hdu_kind shape hdu.header.cards ≡ Some kind
    → pixels_made (rect_of shape lo hi hdu) ≡ rect_answer (lies_within shape.axes lo hi) (rectangle_values (width_of kind) hdu.data_unit shape.axes lo hi (offset_of kind))
unfolding rect_of
rect_of_image shape hdu kind lo hi e = ap (λ found. pixels_made (rect_by found shape lo hi hdu)) e ∙ rect_said (lies_within shape.axes lo hi) (rectangle_values (width_of kind) hdu.data_unit shape.axes lo hi (offset_of kind))

-- by the shape that its cards describe
of_shape : (said : Result Shape ℕ) (hdu : HduParts) (kind : Kind) (shape : Shape) → shaped said (λ it. ok_or (hdu_kind it hdu.header.cards) pixel.NotImage) ≡ Ok kind → some_shape said ≡ Ok shape → (lo hi : List ℕ)
    → shaped said (λ it. rect_of it lo hi hdu) ≡ rect_answer (lies_within shape.axes lo hi) (rectangle_values (width_of kind) hdu.data_unit shape.axes lo hi (offset_of kind))
of_shape (Err place) hdu kind shape k s lo hi = absurd (cc)
of_shape (Ok it) hdu kind shape k s lo hi =
    let same : it ≡ shape = cc in
    ap (λ (x : Shape). pixels_made (rect_of x lo hi hdu)) same
    ∙ rect_of_image shape hdu kind lo hi (kind_some _ kind (ap (λ (x : Shape). pixels_made (ok_or (hdu_kind x hdu.header.cards) pixel.NotImage)) (sym same) ∙ k))

-- the data unit of an HDU, if it is there
abbrev data_in : Option HduParts → List ℕ
data_in None = []
data_in (Some hdu) = hdu.data_unit

-- by the HDU that was found
answers_in : (primary : Bool) (found : Option HduParts) (kind : Kind) (shape : Shape) → in_hdu (by_shape primary (λ it hdu. ok_or (hdu_kind it hdu.header.cards) pixel.NotImage)) found ≡ Ok kind
    → in_hdu (λ hdu. some_shape (shape_of primary hdu.header.cards)) found ≡ Ok shape → (lo hi : List ℕ)
    → in_hdu (by_shape primary (λ it hdu. rect_of it lo hi hdu)) found ≡ rect_answer (lies_within shape.axes lo hi) (rectangle_values (width_of kind) (data_in found) shape.axes lo hi (offset_of kind))
answers_in primary None kind shape k s lo hi = absurd (cc)
answers_in primary (Some hdu) kind shape k s lo hi = of_shape (shape_of primary hdu.header.cards) hdu kind shape k s lo hi

-- an HDU that has a kind and a shape is an image of its axes
pub image_of : (file : FileParts) (h : ℕ) (kind : Kind) (shape : Shape) → kind_in file h ≡ Ok kind → shape_in file h ≡ Ok shape → IsImageIn file h shape.axes
image_of file h kind shape k s = record { width = width_of kind; bytes = data_in (hdu_of file h); offset = offset_of kind; answers = answers_in (is_primary_hdu h) (hdu_of file h) kind shape k s }

-- ---- an HDU that is none

-- it isn't there, or no image
abbrev Lacks : Result (List ℤ) Refusal → Refusal → Type 0
Lacks answer why = ((why ≡ NoHdu) × (answer ≡ Err NoHdu)) ⊎ ((why ≡ NotImage) × (answer ≡ Err NotImage))

-- by the kind
lacks_kind : (found : Option Kind) (shape : Shape) (hdu : HduParts) (lo hi : List ℕ) (why : Refusal) → pixels_made (ok_or found pixel.NotImage) ≡ Err why → Lacks (pixels_made (rect_by found shape lo hi hdu)) why
lacks_kind None shape hdu lo hi why e = inr (cc, refl)
lacks_kind (Some kind) shape hdu lo hi why e = absurd (cc)

-- by the shape
lacks_shape : (said : Result Shape ℕ) (hdu : HduParts) (lo hi : List ℕ) (why : Refusal) → shaped said (λ it. ok_or (hdu_kind it hdu.header.cards) pixel.NotImage) ≡ Err why → Lacks (shaped said (λ it. rect_of it lo hi hdu)) why
unfolding rect_of
lacks_shape (Err place) hdu lo hi why e = inr (cc, refl)
lacks_shape (Ok shape) hdu lo hi why e = lacks_kind (hdu_kind shape hdu.header.cards) shape hdu lo hi why e

-- by the HDU that was found
lacks : (primary : Bool) (found : Option HduParts) (lo hi : List ℕ) (why : Refusal) → in_hdu (by_shape primary (λ it hdu. ok_or (hdu_kind it hdu.header.cards) pixel.NotImage)) found ≡ Err why
    → Lacks (in_hdu (by_shape primary (λ it hdu. rect_of it lo hi hdu)) found) why
lacks primary None lo hi why e = inl (cc, refl)
lacks primary (Some hdu) lo hi why e = lacks_shape (shape_of primary hdu.header.cards) hdu lo hi why e

-- then the query is refused for that
lacks_stops : (Fits : ℤ → Type 0) (answer : Result (List ℤ) Refusal) (size : ℕ) (why : Refusal) → Lacks answer why → RectStops Fits answer size why
lacks_stops Fits answer size why it = elim it [
  | inl there ↦ subst (RectStops Fits answer size) (sym there.0) there.1
  | inr image ↦ subst (RectStops Fits answer size) (sym image.0) image.1
]

-- an HDU that has no kind has no rectangle
pub kind_stops : (Fits : ℤ → Type 0) (file : FileParts) (h size : ℕ) (lo hi : List ℕ) (why : Refusal) → kind_in file h ≡ Err why → RectStops Fits (rect_in file h lo hi) size why
kind_stops Fits file h size lo hi why e = lacks_stops Fits (rect_in file h lo hi) size why (lacks (is_primary_hdu h) (hdu_of file h) lo hi why e)

-- one that has a kind has a shape: by the shape that its cards describe
shape_said : (said : Result Shape ℕ) (hdu : HduParts) (kind : Kind) (why : Refusal) → shaped said (λ it. ok_or (hdu_kind it hdu.header.cards) pixel.NotImage) ≡ Ok kind → some_shape said ≡ Err why → ⊥
shape_said (Err place) hdu kind why k s = absurd (cc)
shape_said (Ok shape) hdu kind why k s = absurd (cc)

-- by the HDU that was found
shape_found : (primary : Bool) (found : Option HduParts) (kind : Kind) (why : Refusal) → in_hdu (by_shape primary (λ it hdu. ok_or (hdu_kind it hdu.header.cards) pixel.NotImage)) found ≡ Ok kind
    → in_hdu (λ hdu. some_shape (shape_of primary hdu.header.cards)) found ≡ Err why → ⊥
shape_found primary None kind why k s = absurd (cc)
shape_found primary (Some hdu) kind why k s = shape_said (shape_of primary hdu.header.cards) hdu kind why k s

-- in a file
pub shape_stays : (file : FileParts) (h : ℕ) (kind : Kind) (why : Refusal) → kind_in file h ≡ Ok kind → shape_in file h ≡ Err why → ⊥
shape_stays file h kind why k s = shape_found (is_primary_hdu h) (hdu_of file h) kind why k s

-- ---- corners

-- those that don't lie in the image are refused
pub corners_stop : (Fits : ℤ → Type 0) (file : FileParts) (h size : ℕ) (axes lo hi : List ℕ) → IsImageIn file h axes → lies_within axes lo hi ≡ false → RectStops Fits (rect_in file h lo hi) size BadRect
corners_stop Fits file h size axes lo hi image outside = image.answers lo hi ∙ ap (λ b. rect_answer b (rectangle_values image.width image.bytes axes lo hi image.offset)) outside

-- those that do have values
values_are : (file : FileParts) (h : ℕ) (axes lo hi : List ℕ) (image : IsImageIn file h axes) → IsRectangle axes lo hi → rect_in file h lo hi ≡ Ok (rectangle_values image.width image.bytes axes lo hi image.offset)
values_are file h axes lo hi image is =
    image.answers lo hi ∙ ap (λ b. rect_answer b (rectangle_values image.width image.bytes axes lo hi image.offset)) ((lies_within_decides axes lo hi).1 is)

-- as many as the rectangle has pixels
pub count_stops : (Fits : ℤ → Type 0) (file : FileParts) (h size : ℕ) (axes lo hi : List ℕ) → IsImageIn file h axes → IsRectangle axes lo hi → (size ≡ rectangle_size lo hi → ⊥) → RectStops Fits (rect_in file h lo hi) size WrongCount
count_stops Fits file h size axes lo hi image is other =
    (rectangle_values image.width image.bytes axes lo hi image.offset, values_are file h axes lo hi image is, λ e. other (sym e ∙ length-rectangle_values image.width image.bytes axes lo hi image.offset is))

-- ---- rows

-- the first values of a rectangle
abbrev pub first_of : (file : FileParts) (h : ℕ) (lo hi : List ℕ) → IsRectIn file h lo hi → ℕ → List ℤ
first_of file h lo hi it n = first_values it.image.width it.image.bytes it.axes lo hi it.image.offset n

-- the corners of one
pub rect_corners : (file : FileParts) (h : ℕ) (lo hi : List ℕ) → IsRectIn file h lo hi → AreCorners lo hi
rect_corners file h lo hi it = corners_of it.axes lo hi it.lies

-- where memory is refused there are values
pub memory_stops : (Fits : ℤ → Type 0) (file : FileParts) (h size : ℕ) (lo hi : List ℕ) → IsRectIn file h lo hi → RectStops Fits (rect_in file h lo hi) size Memory
memory_stops Fits file h size lo hi it = rw (values_are file h it.axes lo hi it.image it.lies) refl

-- an answer isn't refused, but for memory
only_memory : (values : List ℤ) (why : Refusal) → QueryFails (Ok values) why → why ≡ Memory
only_memory values NoHdu e = absurd (cc)
only_memory values NoCard e = absurd (cc)
only_memory values NoKey e = absurd (cc)
only_memory values BadText e = absurd (cc)
only_memory values EndCard e = absurd (cc)
only_memory values BadShape e = absurd (cc)
only_memory values BadName e = absurd (cc)
only_memory values BadValue e = absurd (cc)
only_memory values NotImage e = absurd (cc)
only_memory values BadRect e = absurd (cc)
only_memory values WrongCount e = absurd (cc)
only_memory values Range e = absurd (cc)
only_memory values PrimaryStays e = absurd (cc)
only_memory values TooLarge e = absurd (cc)
only_memory values Memory e = refl

-- one row is refused for memory alone
pub row_stops : (Fits : ℤ → Type 0) (file : FileParts) (h size : ℕ) (lo hi first last : List ℕ) (row : ℕ) (why : Refusal) → IsRectIn file h lo hi → row < row_count lo hi
    → first ≡ row_corner lo lo hi row → last ≡ row_corner hi lo hi row → QueryFails (rect_in file h first last) why → RectStops Fits (rect_in file h lo hi) size why
row_stops Fits file h size lo hi first last row why it b f l fails =
    let said = values_are file h it.axes (row_corner lo lo hi row) (row_corner hi lo hi row) it.image (row_lies it.axes lo hi row it.lies b) in
    let at : rect_in file h first last ≡ Ok _ = ap (λ xs. rect_in file h xs last) f ∙ ap (λ ys. rect_in file h (row_corner lo lo hi row) ys) l ∙ said in
    subst (RectStops Fits (rect_in file h lo hi) size) (sym (only_memory _ why (subst (λ answer. QueryFails answer why) at fails))) (memory_stops Fits file h size lo hi it)

-- the values of one are those of the rectangle
pub row_is : (file : FileParts) (h : ℕ) (lo hi first last : List ℕ) (row : ℕ) (values : List ℤ) (it : IsRectIn file h lo hi) → row < row_count lo hi
    → first ≡ row_corner lo lo hi row → last ≡ row_corner hi lo hi row → rect_in file h first last ≡ Ok values
    → values ≡ rectangle_values it.image.width it.image.bytes it.axes (row_corner lo lo hi row) (row_corner hi lo hi row) it.image.offset
row_is file h lo hi first last row values it b f l e =
    let said = values_are file h it.axes (row_corner lo lo hi row) (row_corner hi lo hi row) it.image (row_lies it.axes lo hi row it.lies b) in
    let at : Ok values ≡ Ok (rectangle_values it.image.width it.image.bytes it.axes (row_corner lo lo hi row) (row_corner hi lo hi row) it.image.offset) =
    sym e ∙ ap (λ xs. rect_in file h xs last) f ∙ ap (λ ys. rect_in file h (row_corner lo lo hi row) ys) l ∙ said in
    cc

-- as many as a row has
pub row_length : (file : FileParts) (h : ℕ) (lo hi first last : List ℕ) (row : ℕ) (values : List ℤ) → IsRectIn file h lo hi → row < row_count lo hi
    → first ≡ row_corner lo lo hi row → last ≡ row_corner hi lo hi row → rect_in file h first last ≡ Ok values → length values ≡ row_size lo hi
row_length file h lo hi first last row values it b f l e =
    ap length (row_is file h lo hi first last row values it b f l e)
    ∙ length-rectangle_values it.image.width it.image.bytes it.axes (row_corner lo lo hi row) (row_corner hi lo hi row) it.image.offset (row_lies it.axes lo hi row it.lies b)
    ∙ row_len_is lo hi row

-- one row more fills the room as far
pub row_more : (file : FileParts) (h : ℕ) (lo hi first last : List ℕ) (row : ℕ) (values before after : List ℤ) (it : IsRectIn file h lo hi) → row < row_count lo hi
    → first ≡ row_corner lo lo hi row → last ≡ row_corner hi lo hi row → rect_in file h first last ≡ Ok values
    → before ≡ first_of file h lo hi it (row * row_size lo hi) → after ≡ before ++ values → after ≡ first_of file h lo hi it ((row + 1) * row_size lo hi)
row_more file h lo hi first last row values before after it b f l e done is =
    is ∙ ap (λ xs. xs ++ values) done
    ∙ ap (λ ys. first_of file h lo hi it (row * row_size lo hi) ++ ys) (row_is file h lo hi first last row values it b f l e)
    ∙ row_follows it.image.width it.image.bytes it.axes lo hi it.image.offset row it.lies b

-- how many rows there are
pub rows_count : (file : FileParts) (h size side rows : ℕ) (lo hi : List ℕ) → IsRectIn file h lo hi → size ≡ rectangle_size lo hi → side ≡ row_size lo hi → rows ≡ size / side → rows ≡ row_count lo hi
rows_count file h size side rows lo hi it s w r = r ∙ ap (λ n. n / side) s ∙ ap (λ n. rectangle_size lo hi / n) w ∙ rows_are it.axes lo hi it.lies

-- all rows fill it
pub rows_fill : (file : FileParts) (h size row : ℕ) (lo hi : List ℕ) (room : List ℤ) (it : IsRectIn file h lo hi) → row ≡ row_count lo hi → room ≡ first_of file h lo hi it (row * row_size lo hi) → rect_in file h lo hi ≡ Ok room
rows_fill file h size row lo hi room it e is =
    let all : row * row_size lo hi ≡ rectangle_size lo hi = ap (λ n. n * row_size lo hi) e ∙ omega (arith, rectangle_size-rows lo hi) in
    values_are file h it.axes lo hi it.image it.lies
    ∙ ap Ok (sym (is ∙ ap (first_of file h lo hi it) all ∙ first_values-all it.image.width it.image.bytes it.axes lo hi it.image.offset it.lies))

-- what holds of each element holds of each of the first
All_front : (P : ℤ → Type 0) (ys zs : List ℤ) → All P (ys ++ zs) → All P ys
All_front P [] zs all k d b = absurd (omega (arith, b))
All_front P (y ∷ ys) zs all zero d b = all 0 d (omega arith)
All_front P (y ∷ ys) zs all (suc k) d b = All_front P ys zs (λ j e c. all (suc j) e (omega (arith, c))) k d (omega (arith, b))

-- and of each of a part
All_part : (P : ℤ → Type 0) (xs ys zs : List ℤ) → All P (xs ++ (ys ++ zs)) → All P ys
All_part P [] ys zs all = All_front P ys zs all
All_part P (x ∷ xs) ys zs all = All_part P xs ys zs (λ j e c. all (suc j) e (omega (arith, c)))

-- the values of a rectangle are those of the rows before one, its own, and others
row_between : (file : FileParts) (h : ℕ) (lo hi : List ℕ) (row : ℕ) (values : List ℤ) (it : IsRectIn file h lo hi) → row < row_count lo hi
    → values ≡ rectangle_values it.image.width it.image.bytes it.axes (row_corner lo lo hi row) (row_corner hi lo hi row) it.image.offset
    → (rest : List ℤ) × (rectangle_values it.image.width it.image.bytes it.axes lo hi it.image.offset ≡ first_of file h lo hi it (row * row_size lo hi) ++ (values ++ rest))
row_between file h lo hi row values it b is =
    let side : ℕ = row_size lo hi in
    let v : ℕ → ℤ = λ k. value_at it.image.width it.image.bytes it.image.offset (place it.axes lo hi k) in
    let upto : ℕ = (row + 1) * side in
    let below : row + 1 ≤ row_count lo hi = omega (arith, b) in
    let more = mul-le-mul_left side below in
    let left : ℕ = rectangle_size lo hi - upto in
    let whole : rectangle_size lo hi ≡ upto + left = omega (arith, more, rectangle_size-rows lo hi) in
    let rest : List ℤ = map v (range_with_len (0 + upto) left) in (
      rest,
      sym (first_values-all it.image.width it.image.bytes it.axes lo hi it.image.offset it.lies)
          ∙ ap (first_of file h lo hi it) whole
          ∙ ap (map v) (range-append 0 upto left) ∙ map-append v (range_with_len 0 upto) (range_with_len (0 + upto) left)
          ∙ ap (λ xs. xs ++ rest) (sym (row_follows it.image.width it.image.bytes it.axes lo hi it.image.offset row it.lies b))
          ∙ append_assoc (first_of file h lo hi it (row * side)) _ rest
          ∙ ap (λ xs. first_of file h lo hi it (row * side) ++ (xs ++ rest)) (sym is),
    )

-- where a value of a row has no number, one of the rectangle has none
pub range_stops : (Fits : ℤ → Type 0) (file : FileParts) (h size : ℕ) (lo hi first last : List ℕ) (row : ℕ) (values : List ℤ) → IsRectIn file h lo hi → row < row_count lo hi
    → first ≡ row_corner lo lo hi row → last ≡ row_corner hi lo hi row → rect_in file h first last ≡ Ok values → (All Fits values → ⊥) → RectStops Fits (rect_in file h lo hi) size Range
range_stops Fits file h size lo hi first last row values it b f l e lacking =
    let parts = row_between file h lo hi row values it b (row_is file h lo hi first last row values it b f l e) in (
      rectangle_values it.image.width it.image.bytes it.axes lo hi it.image.offset,
      values_are file h it.axes lo hi it.image it.lies,
      λ every. lacking (All_part Fits (first_of file h lo hi it (row * row_size lo hi)) values parts.0 (subst (All Fits) parts.1 every)),
    )
