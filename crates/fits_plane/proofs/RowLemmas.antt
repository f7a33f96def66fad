-- The rows of a rectangle.
use Rattle.std.proofs.Common.{◌≡◌, ◌<◌, ◌≤◌, ℕ, ◌+◌, ◌-◌, ◌*◌, ◌/◌, true, false, ◌==◌, List, [], ◌∷◌, length, get_or, refl, arith, sym, ◌∙◌, ap}
use Rattle.std.proofs.Math.Nat.{mul-le-mul_left, mul-div_cancel_left}
use Rattle.fits_plane.specs.Rectangle.{product, place, rectangle_size, row_size, row_count, IsRectangle, is_inside}
use Rattle.fits_plane.proofs.PlaceLemmas.{place-lt-product, inside_place, number-place, place-in_row, number}

-- a row has a pixel
pub row_size_some : (axs ls hs : List ℕ) → IsRectangle axs ls hs → 0 < row_size ls hs
row_size_some [] [] [] r = omega arith
row_size_some (a ∷ axs) (l ∷ ls) (h ∷ hs) r = omega (arith, r.0, r.1)
row_size_some _ _ _ r = elim r [ ]

-- the rows make up the rectangle
pub rectangle_size-rows : (ls hs : List ℕ) → rectangle_size ls hs ≡ row_size ls hs * row_count ls hs
rectangle_size-rows [] hs = refl
rectangle_size-rows (l ∷ ls) [] = refl
rectangle_size-rows (l ∷ ls) (h ∷ hs) = refl

-- the axes span a pixel
pub product_some : (axs ls hs : List ℕ) → IsRectangle axs ls hs → 1 ≤ product axs
product_some [] [] [] r = omega arith
product_some (a ∷ axs) (l ∷ ls) (h ∷ hs) r = let more = mul-le-mul_left a (product_some axs ls hs r.3) in omega (arith, more, r.0, r.1, r.2)
product_some _ _ _ r = elim r [ ]

-- the rectangle has a pixel
pub rectangle_size_some : (axs ls hs : List ℕ) → IsRectangle axs ls hs → 1 ≤ rectangle_size ls hs
rectangle_size_some [] [] [] r = omega arith
rectangle_size_some (a ∷ axs) (l ∷ ls) (h ∷ hs) r = let more = mul-le-mul_left (h + 1 - l) (rectangle_size_some axs ls hs r.3) in omega (arith, more, r.0, r.1, r.2)
rectangle_size_some _ _ _ r = elim r [ ]

-- a rectangle has no more pixels than the axes span
pub rectangle_size-le-product : (axs ls hs : List ℕ) → IsRectangle axs ls hs → rectangle_size ls hs ≤ product axs
rectangle_size-le-product [] [] [] r = omega arith
rectangle_size-le-product (a ∷ axs) (l ∷ ls) (h ∷ hs) r =
    let side : ℕ = h + 1 - l in
    let rest = mul-le-mul_left side (rectangle_size-le-product axs ls hs r.3) in
    let short : side ≤ a = omega (arith, r.0, r.1, r.2) in
    let more = mul-le-mul_left (product axs) short in
    omega (arith, rest, more)
rectangle_size-le-product _ _ _ r = elim r [ ]

-- the rectangle's size by its rows
pub rows_are : (axs ls hs : List ℕ) → IsRectangle axs ls hs → rectangle_size ls hs / row_size ls hs ≡ row_count ls hs
rows_are axs ls hs r = ap (λ m. m / row_size ls hs) (rectangle_size-rows ls hs) ∙ mul-div_cancel_left (row_count ls hs) (row_size_some axs ls hs r)

-- a row goes on from pixel to pixel
row_at : (axs ls hs : List ℕ) (row x : ℕ) → IsRectangle axs ls hs → x < row_size ls hs → place axs ls hs (row * row_size ls hs + x) ≡ place axs ls hs (row * row_size ls hs) + x
row_at [] [] [] row x r b = omega arith
row_at (a ∷ axs) (l ∷ ls) (h ∷ hs) row x r b =
    let some : 0 < h + 1 - l = omega (arith, r.0, r.1) in
    let start : row * (h + 1 - l) + 0 ≡ row * (h + 1 - l) = omega arith in
    let first = place-in_row a l h axs ls hs row 0 some in
    place-in_row a l h axs ls hs row x b ∙ omega (arith, first, ap (place (a ∷ axs) (l ∷ ls) (h ∷ hs)) start)
row_at _ _ _ row x r b = elim r [ ]

-- a row of the rectangle that has `side` pixels from `first` on
pub record Row (axes lo hi : List ℕ) (side row first : ℕ) : Type 0 where
  pub some : 0 < side
  pub number_lt : (x : ℕ) → x < side → row * side + x < rectangle_size lo hi
  pub at : (x : ℕ) → x < side → place axes lo hi (row * side + x) ≡ first + x
  pub room : first + side ≤ product axes

-- what is known of a row by where it begins
pub row_of : (axes lo hi : List ℕ) (row first : ℕ) → IsRectangle axes lo hi → row < row_count lo hi → first ≡ place axes lo hi (row * row_size lo hi) → Row axes lo hi (row_size lo hi) row first
row_of axes lo hi row first r w f =
    let side : ℕ = row_size lo hi in
    let some = row_size_some axes lo hi r in
    let more = mul-le-mul_left side w in
    let split = rectangle_size-rows lo hi in
    let below : (x : ℕ) → x < side → row * side + x < rectangle_size lo hi = λ x b. omega (arith, more, b, split) in
    let here : (x : ℕ) → x < side → place axes lo hi (row * side + x) ≡ first + x = λ x b. row_at axes lo hi row x r b ∙ ap (λ m. m + x) (sym f) in
    let one : side - 1 < side = omega (arith, some) in
    let last = place-lt-product axes lo hi (row * side + (side - 1)) r (below (side - 1) one) in
    record { some = some; number_lt = below; at = here; room = omega (arith, last, here (side - 1) one, some) }

-- a pixel of the row is of the rectangle, by its number
pub in_row : (axes lo hi : List ℕ) (side row first i : ℕ) → IsRectangle axes lo hi → Row axes lo hi side row first → first ≤ i → i < first + side
    → (is_inside axes lo hi i ≡ true) × (number axes lo hi i ≡ row * side + (i - first))
in_row axes lo hi side row first i r w p q =
    let x : ℕ = i - first in
    let b : x < side = omega arith in
    let e : place axes lo hi (row * side + x) ≡ i = w.at x b ∙ omega arith in
    let k : ℕ = row * side + x in (
      ap (is_inside axes lo hi) (sym e) ∙ inside_place axes lo hi k r (w.number_lt x b),
      ap (number axes lo hi) (sym e) ∙ number-place axes lo hi k r (w.number_lt x b),
    )

-- a row's pixels are of the rectangle, by what is known of the loop
pub row_lies : (axes lo hi : List ℕ) (n count row : ℕ) → IsRectangle axes lo hi → n ≡ row_size lo hi → count ≡ row_count lo hi → row < count → row * n + n ≤ rectangle_size lo hi
row_lies axes lo hi n count row r e rows b =
    let split = rectangle_size-rows lo hi in
    let more = mul-le-mul_left (row_size lo hi) b in
    let across : row * n ≡ row * row_size lo hi = ap (λ m. row * m) e in
    let all : row_size lo hi * count ≡ row_size lo hi * row_count lo hi = ap (λ m. row_size lo hi * m) rows in
    omega (arith, split, more, across, all, e)

-- what the first axis gives, where there is one
pub record FirstAxis (axes lo hi : List ℕ) : Type 0 where
  pub low : 0 < length lo
  pub high : 0 < length hi
  pub some : 1 ≤ get_or lo 0 0
  pub side : get_or lo 0 0 ≤ get_or hi 0 0
  pub room : get_or hi 0 0 ≤ product axes
  pub is : row_size lo hi ≡ get_or hi 0 0 + 1 - get_or lo 0 0

-- by the corners
pub first_axis : (axes lo hi : List ℕ) → IsRectangle axes lo hi → (length axes == 0) ≡ false → FirstAxis axes lo hi
first_axis [] [] [] r h = absurd (cc)
first_axis (a ∷ axs) (l ∷ ls) (h ∷ hs) r n =
    let more = mul-le-mul_left a (product_some axs ls hs r.3) in
    record { low = omega arith; high = omega arith; some = r.0; side = r.1; room = omega (arith, more, r.2); is = refl }
first_axis _ _ _ r h = elim r [ ]
