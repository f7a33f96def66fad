-- A rectangle that is read row by row, each a rectangle.
use Rattle.std.proofs.Common.{◌≡◌, ◌<◌, ℕ, zero, suc, ◌+◌, ◌-◌, ◌*◌, ◌/◌, ◌%◌, List, [], ◌∷◌, ◌++◌, map, refl, arith, sym, ◌∙◌, ap, ℤ}
use Rattle.std.specs.List.{range_with_len}
use Rattle.std.proofs.Math.Nat.{mod-lt, div-lt_iff_lt-mul}
use Rattle.std.proofs.lemmas.List.{map-append}
use Rattle.fits_plane.specs.Rectangle.{place, rectangle_size, row_size, row_count, value_at, rectangle_values, IsRectangle}
use Rattle.fits_c.specs.Rows.{row_corner, row_place}
use Rattle.fits_plane.proofs.BlockLemmas.{range-append}
use Rattle.fits_plane.proofs.PlaceLemmas.{place-in_row}
use Rattle.fits_plane.proofs.ReadLemmas.{first_values, first_values-all}

-- a row lies in the axes
pub row_place_lies : (axs ls hs : List ℕ) (r : ℕ) → IsRectangle axs ls hs → r < rectangle_size ls hs → IsRectangle axs (row_place ls hs r) (row_place ls hs r)
row_place_lies [] [] [] r is b = is
row_place_lies (a ∷ axs) (l ∷ ls) (h ∷ hs) r is b =
    let some : 0 < h + 1 - l = omega (arith, is.1) in
    let within = mod-lt r some in
    (omega (arith, is.0), omega arith, omega (arith, within, is.1, is.2), row_place_lies axs ls hs (r / (h + 1 - l)) is.3 ((div-lt_iff_lt-mul some).1 (omega (arith, b))))
row_place_lies _ _ _ r is b = elim is [ ]

-- one row is one pixel of the other axes
pub row_place_size : (ls hs : List ℕ) (r : ℕ) → rectangle_size (row_place ls hs r) (row_place ls hs r) ≡ 1
row_place_size [] hs r = refl
row_place_size (l ∷ ls) [] r = refl
row_place_size (l ∷ ls) (h ∷ hs) r =
    let x : ℕ = l + r % (h + 1 - l) in
    let one : x + 1 - x ≡ 1 = omega arith in
    ap (λ n. n * rectangle_size (row_place ls hs (r / (h + 1 - l))) (row_place ls hs (r / (h + 1 - l)))) one ∙ ap (λ n. 1 * n) (row_place_size ls hs (r / (h + 1 - l))) ∙ omega arith

-- and it is that one
pub row_place_is : (axs ls hs : List ℕ) (r : ℕ) → IsRectangle axs ls hs → place axs (row_place ls hs r) (row_place ls hs r) 0 ≡ place axs ls hs r
row_place_is [] [] [] r is = refl
row_place_is (a ∷ axs) (l ∷ ls) (h ∷ hs) r is =
    let s : ℕ = h + 1 - l in
    let x : ℕ = l + r % s in
    let one : x + 1 - x ≡ 1 = omega arith in
    let t : List ℕ = row_place ls hs (r / s) in
    let first : x - 1 + 0 % (x + 1 - x) ≡ l - 1 + r % s = ap (λ n. x - 1 + 0 % n) one ∙ omega (arith, is.0) in
    let next : 0 / (x + 1 - x) ≡ 0 = ap (λ n. 0 / n) one ∙ omega arith in
    ap (λ n. n + a * place axs t t (0 / (x + 1 - x))) first ∙ ap (λ n. (l - 1 + r % s) + a * place axs t t n) next ∙ ap (λ n. (l - 1 + r % s) + a * n) (row_place_is axs ls hs (r / s) is.3)
row_place_is _ _ _ r is = elim is [ ]

-- the corners of a row lie in the axes
pub row_lies : (axes lo hi : List ℕ) (r : ℕ) → IsRectangle axes lo hi → r < row_count lo hi → IsRectangle axes (row_corner lo lo hi r) (row_corner hi lo hi r)
row_lies [] [] [] r is b = is
row_lies (a ∷ axs) (l ∷ ls) (h ∷ hs) r is b = (is.0, is.1, is.2, row_place_lies axs ls hs r is.3 b)
row_lies _ _ _ r is b = elim is [ ]

-- it has as many pixels as a row
pub row_len_is : (lo hi : List ℕ) (r : ℕ) → rectangle_size (row_corner lo lo hi r) (row_corner hi lo hi r) ≡ row_size lo hi
row_len_is [] hi r = refl
row_len_is (l ∷ ls) [] r = refl
row_len_is (l ∷ ls) (h ∷ hs) r = ap (λ n. (h + 1 - l) * n) (row_place_size ls hs r) ∙ omega arith

-- pixel x of the row is that of the rectangle
pub row_pixel : (axes lo hi : List ℕ) (r x : ℕ) → IsRectangle axes lo hi → r < row_count lo hi → x < row_size lo hi
    → place axes (row_corner lo lo hi r) (row_corner hi lo hi r) x ≡ place axes lo hi (r * row_size lo hi + x)
row_pixel [] [] [] r x is b c = refl
row_pixel (a ∷ axs) (l ∷ ls) (h ∷ hs) r x is b c =
    let t : List ℕ = row_place ls hs r in
    let z : 0 * (h + 1 - l) + x ≡ x = omega arith in
    ap (place (a ∷ axs) (l ∷ t) (h ∷ t)) (sym z) ∙ place-in_row a l h axs t t 0 x c ∙ ap (λ n. (l - 1) + a * n + x) (row_place_is axs ls hs r is.3) ∙ sym (place-in_row a l h axs ls hs r x c)
row_pixel _ _ _ r x is b c = elim is [ ]

-- what is made of two ranges, where it is the same of each place
map-ranges : {X : Type 0} (f g : ℕ → X) (a b n : ℕ) → ((x : ℕ) → x < n → f (a + x) ≡ g (b + x)) → map f (range_with_len a n) ≡ map g (range_with_len b n)
map-ranges f g a b zero h = refl
map-ranges f g a b (suc n) h =
    let p : a + 0 ≡ a = omega arith in
    let q : b + 0 ≡ b = omega arith in
    let first : f a ≡ g b = ap f (sym p) ∙ h 0 (omega arith) ∙ ap g q in
    let rest = map-ranges f g (a + 1) (b + 1) n (λ x l.
    let r : a + 1 + x ≡ a + suc x = omega arith in
    let s : b + 1 + x ≡ b + suc x = omega arith in
    ap f r ∙ h (suc x) (omega arith) ∙ ap g (sym s)) in
    rw (first, rest) refl

module _ (w : ℕ) (bytes axes lo hi : List ℕ) (offset : ℤ) where
  -- the values of a row follow those of the rows before it
  pub row_follows : (r : ℕ) → IsRectangle axes lo hi → r < row_count lo hi
      → first_values w bytes axes lo hi offset (r * row_size lo hi) ++ rectangle_values w bytes axes (row_corner lo lo hi r) (row_corner hi lo hi r) offset
      ≡ first_values w bytes axes lo hi offset ((r + 1) * row_size lo hi)
  row_follows r is b =
      let side : ℕ = row_size lo hi in
      let los : List ℕ = row_corner lo lo hi r in
      let his : List ℕ = row_corner hi lo hi r in
      let f : ℕ → ℤ = λ k. value_at w bytes offset (place axes lo hi k) in
      let g : ℕ → ℤ = λ k. value_at w bytes offset (place axes los his k) in
      let all : map g (range_with_len 0 side) ≡ rectangle_values w bytes axes los his offset =
      ap (λ n. map g (range_with_len 0 n)) (sym (row_len_is lo hi r)) ∙ first_values-all w bytes axes los his offset (row_lies axes lo hi r is b) in
      let part : map g (range_with_len 0 side) ≡ map f (range_with_len (0 + r * side) side) = map-ranges g f 0 (0 + r * side) side (λ x c.
      let y : 0 + x ≡ x = omega arith in
      let z : r * side + x ≡ 0 + r * side + x = omega arith in
      ap g y ∙ ap (value_at w bytes offset) (row_pixel axes lo hi r x is b c) ∙ ap f z) in
      let up : r * side + side ≡ (r + 1) * side = omega arith in
      ap (λ ys. first_values w bytes axes lo hi offset (r * side) ++ ys) (sym all ∙ part)
      ∙ sym (map-append f (range_with_len 0 (r * side)) (range_with_len (0 + r * side) side))
      ∙ ap (map f) (sym (range-append 0 (r * side) side)) ∙ ap (first_values w bytes axes lo hi offset) up
