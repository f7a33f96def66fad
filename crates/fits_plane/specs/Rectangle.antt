-- Rectangles of pixels; the first axis varies fastest (FITS Standard 4.0, 3.3.2; own).
use Rattle.std.specs.Prelude.{◌≡◌, ◌≢◌, ◌<◌, ◌≤◌, ◌↔◌, ℕ, ◌+◌, ◌-◌, ◌*◌, ◌/◌, ◌%◌, Bool, true, false, IsTrue, ◌&&◌, nat_le, nat_lt, List, [], ◌∷◌, length, map, filter, count_by, slice_index, ℤ, ◌+ℤ◌, All, if◌then◌else◌}
use Rattle.std.specs.List.{range_with_len}
use Rattle.fits_pixels.specs.Pixels.{pixel, stored_bytes, IsWidth, IsStorable}

-- how many pixels the axes span
abbrev pub product : List ℕ → ℕ
product [] = 1
product (a ∷ rest) = a * product rest

-- the corners lie in the axes, counted from 1
abbrev pub IsRectangle : List ℕ → List ℕ → List ℕ → Type 0
IsRectangle [] [] [] = Unit {0}
IsRectangle (a ∷ axs) (l ∷ ls) (h ∷ hs) = (1 ≤ l) × (l ≤ h) × (h ≤ a) × IsRectangle axs ls hs
IsRectangle _ _ _ = ⊥

-- do the corners lie in the axes?
unfoldable pub lies_within : List ℕ → List ℕ → List ℕ → Bool
lies_within [] [] [] = true
lies_within (a ∷ axs) (l ∷ ls) (h ∷ hs) =
    nat_le 1 l && (nat_le l h && (nat_le h a && lies_within axs ls hs))
lies_within _ _ _ = false

-- it is so just where they make a rectangle
abbrev pub LiesWithinDecides : Type 0
LiesWithinDecides = (axes lo hi : List ℕ) → IsTrue (lies_within axes lo hi) ↔ IsRectangle axes lo hi

-- does each coordinate of pixel i lie from lo to hi?
abbrev pub is_inside : List ℕ → List ℕ → List ℕ → ℕ → Bool
is_inside (a ∷ axs) (l ∷ ls) (h ∷ hs) i =
    nat_le l (i % a + 1) && (nat_le (i % a + 1) h && is_inside axs ls hs (i / a))
is_inside _ _ _ i = true

-- how many of the rectangle's pixels stand before pixel i
abbrev pub rank : List ℕ → List ℕ → List ℕ → ℕ → ℕ
rank axes lo hi i = count_by (is_inside axes lo hi) (range_with_len 0 i)

-- how many pixels the rectangle has
abbrev pub rectangle_size : List ℕ → List ℕ → ℕ
rectangle_size (l ∷ ls) (h ∷ hs) = (h + 1 - l) * rectangle_size ls hs
rectangle_size _ _ = 1

-- how many pixels it has in a row, which goes along the first axis
abbrev pub row_size : List ℕ → List ℕ → ℕ
row_size (l ∷ ls) (h ∷ hs) = h + 1 - l
row_size _ _ = 1

-- how many rows it has
abbrev pub row_count : List ℕ → List ℕ → ℕ
row_count (l ∷ ls) (h ∷ hs) = rectangle_size ls hs
row_count _ _ = 1

-- which pixel the rectangle's pixel k is, both counted from 0
abbrev pub place : List ℕ → List ℕ → List ℕ → ℕ → ℕ
place (a ∷ axs) (l ∷ ls) (h ∷ hs) k =
    (l - 1 + k % (h + 1 - l)) + a * place axs ls hs (k / (h + 1 - l))
place _ _ _ k = 0

-- the value of pixel i: its stored number and the offset (4.4.2.5)
abbrev pub value_at : ℕ → List ℕ → ℤ → ℕ → ℤ
value_at width bytes offset i = pixel width bytes i +ℤ offset

-- the values of the rectangle's pixels in file order
unfoldable pub rectangle_values : (width : ℕ) → (bytes axes lo hi : List ℕ) → ℤ → List ℤ
rectangle_values width bytes axes lo hi offset =
    map (value_at width bytes offset) (filter (is_inside axes lo hi) (range_with_len 0 (product axes)))

-- each pixel of the rectangle has the number of its rank, each byte of no such pixel is as before
pub record IsWritten
    (width : ℕ) (axes lo hi : List ℕ) (number : ℕ → ℤ) (old new : List ℕ) : Type 0 where
  pub long : length new ≡ length old
  pub inside : (i : ℕ) → i < product axes → is_inside axes lo hi i ≡ true
      → pixel width new i ≡ number (rank axes lo hi i)
  pub outside : (j : ℕ)
      → ((i : ℕ) → i < product axes → is_inside axes lo hi i ≡ true → i ≢ j / width)
      → slice_index new j ≡ slice_index old j

-- is pixel i of the image one of the rectangle?
abbrev pub is_pixel_of : List ℕ → List ℕ → List ℕ → ℕ → Bool
is_pixel_of axes lo hi i = nat_lt i (product axes) && is_inside axes lo hi i

-- byte j of the data unit: of a pixel of the rectangle a byte of the number of its rank, else as it was
abbrev pub byte_written : ℕ → List ℕ → List ℕ → List ℕ → (ℕ → ℤ) → List ℕ → ℕ → ℕ
byte_written width axes lo hi number bytes j =
    if is_pixel_of axes lo hi (j / width)
    then slice_index (stored_bytes width (number (rank axes lo hi (j / width)))) (j % width)
    else slice_index bytes j

-- the bytes after each pixel of the rectangle was given the number of its rank
unfoldable pub rectangle_written : (width : ℕ) → (axes lo hi : List ℕ) → (ℕ → ℤ) → List ℕ → List ℕ
rectangle_written width axes lo hi number bytes =
    map (byte_written width axes lo hi number bytes) (range_with_len 0 (length bytes))

-- bytes whose rectangle is given numbers that its pixels can store are written so
abbrev pub RectangleIsWritten : Type 0
RectangleIsWritten =
    (width : ℕ) (axes lo hi : List ℕ) (number : ℕ → ℤ) (bytes : List ℕ)
    → IsWidth width → IsRectangle axes lo hi → product axes * width ≤ length bytes
    → ((k : ℕ) → k < rectangle_size lo hi → IsStorable width (number k))
    → IsWritten width axes lo hi number bytes (rectangle_written width axes lo hi number bytes)

-- and no other bytes are
abbrev pub WrittenIsRectangle : Type 0
WrittenIsRectangle =
    (width : ℕ) (axes lo hi : List ℕ) (number : ℕ → ℤ) (old new : List ℕ)
    → IsWidth width → All (λ b. b < 256) new
    → IsWritten width axes lo hi number old new
    → new ≡ rectangle_written width axes lo hi number old
