-- A rectangle that is written row by row.
use Rattle.std.proofs.Common.{◌≡◌, ◌≢◌, ◌<◌, ◌≤◌, ℕ, ◌+◌, ◌-◌, ◌*◌, ◌/◌, true, List, length, slice_index, get_or, take, drop, refl, arith, sym, ◌∙◌, ap, subst, inl, inr, ◌⊎◌, ℤ, pos}
use Rattle.std.proofs.lemmas.Bool.{cases_lt, cases_eq}
use Rattle.std.proofs.lemmas.List.{length-take, length-drop, get_or-take, get_or-drop}
use Rattle.std.proofs.Math.Nat.{mul-le-mul_right, mul-le-mul_left, le-div_iff_mul-le, div-lt_iff_lt-mul}
use Rattle.fits_pixels.specs.Pixels.{pixel, IsWidth}
use Rattle.fits_pixels.proofs.PixelLemmas.{pixel-same, width_range}
use Rattle.fits_plane.specs.Rectangle.{product, place, row_size, row_count, IsRectangle, is_inside, IsWritten}
use Rattle.fits_plane.specs.ShortRows.{RowWritten}
use Rattle.fits_plane.proofs.PlaceLemmas.{number, place-number, number-lt-size, rank-number}
use Rattle.fits_plane.proofs.RowLemmas.{Row, row_of, in_row, rectangle_size-rows}

-- before the first pixel
pub row_begun : (w start : ℕ) (value : ℕ → ℤ) (old : List ℕ) → RowWritten w start 0 value old old
row_begun w start value old = record { long = refl; inside = λ y b. absurd (omega (arith, b)); outside = λ j away. refl }

-- another pixel is as before
pub pixel_kept : (w i j : ℕ) (cur new : List ℕ) → ((j : ℕ) → (j < i * w) ⊎ ((i + 1) * w ≤ j) → slice_index new j ≡ slice_index cur j) → j ≢ i → pixel w new j ≡ pixel w cur j
pixel_kept w i j cur new other ne = pixel-same w j j new cur (λ k b. elim (cases_lt j i) [
  | inl lt ↦ let up = mul-le-mul_right w lt in other (j * w + k) (inl (omega (arith, up, b)))
  | inr ge ↦ let gt : i + 1 ≤ j = omega (arith, ge, ne) in let up = mul-le-mul_right w gt in other (j * w + k) (inr (omega (arith, up)))
])

-- one pixel more is written
pub row_more : (w start x : ℕ) (value : ℕ → ℤ) (z : ℤ) (old cur new : List ℕ) → RowWritten w start x value old cur → z ≡ value x → length new ≡ length cur
    → pixel w new (start + x) ≡ z → ((j : ℕ) → (j < (start + x) * w) ⊎ ((start + x + 1) * w ≤ j) → slice_index new j ≡ slice_index cur j)
    → RowWritten w start (x + 1) value old new
row_more w start x value z old cur new v e long here other = record {
  long = long ∙ v.long;
  inside = λ y b. elim (cases_eq y x) [
    | inl same ↦ ap (λ m. pixel w new (start + m)) same ∙ here ∙ e ∙ ap value (sym same)
    | inr ne ↦
        let away : start + y ≢ start + x = omega (arith, ne) in
        let low : y < x = omega (arith, b, ne) in
        pixel_kept w (start + x) (start + y) cur new other away ∙ v.inside y low
  ];
  outside = λ j away. elim away [
    | inl p ↦ let wide : start ≤ start + x = omega arith in let up = mul-le-mul_right w wide in other j (inl (omega (arith, p, up))) ∙ v.outside j (inl p)
    | inr p ↦ other j (inr (omega (arith, p))) ∙ v.outside j (inr (omega (arith, p)))
  ];
}

-- the rows below `row` are written
pub record RowsWritten (w : ℕ) (axes lo hi : List ℕ) (side row : ℕ) (value : ℕ → ℤ) (old new : List ℕ) : Type 0 where
  pub long : length new ≡ length old
  pub done : (i : ℕ) → i < product axes → is_inside axes lo hi i ≡ true → number axes lo hi i < row * side → pixel w new i ≡ value (number axes lo hi i)
  pub outside : (j : ℕ) → ((i : ℕ) → i < product axes → is_inside axes lo hi i ≡ true → number axes lo hi i < row * side → i ≢ j / w) → slice_index new j ≡ slice_index old j

-- before the first row
pub rows_begun : (w : ℕ) (axes lo hi : List ℕ) (side : ℕ) (value : ℕ → ℤ) (old : List ℕ) → RowsWritten w axes lo hi side 0 value old old
rows_begun w axes lo hi side value old = record { long = refl; done = λ i b e none. absurd (omega (arith, none)); outside = λ j away. refl }

-- a pixel past the bytes that were written is as before
pub pixel_away : (w first side i : ℕ) (cur new : List ℕ) → ((j : ℕ) → (j < first * w) ⊎ ((first + side) * w ≤ j) → slice_index new j ≡ slice_index cur j)
    → (i < first) ⊎ (first + side ≤ i) → pixel w new i ≡ pixel w cur i
pixel_away w first side i cur new outside away = pixel-same w i i new cur (λ k b. outside (i * w + k) (elim away [
  | inl p ↦ let up = mul-le-mul_right w p in inl (omega (arith, up, b))
  | inr p ↦ let up = mul-le-mul_right w p in inr (omega (arith, up))
]))

-- a pixel of the rectangle that is of no row below the next, and not of this row, is of a row below
earlier : (axes lo hi : List ℕ) (side row first i : ℕ) → IsRectangle axes lo hi → Row axes lo hi side row first → i < product axes → is_inside axes lo hi i ≡ true
    → number axes lo hi i < (row + 1) * side → (i < first) ⊎ (first + side ≤ i) → number axes lo hi i < row * side
earlier axes lo hi side row first i r v b e small away = elim (cases_lt (number axes lo hi i) (row * side)) [
  | inl lt ↦ lt
  | inr ge ↦
      let k : ℕ = number axes lo hi i in
      let x : ℕ = k - row * side in
      let bx : x < side = omega (arith, ge, small) in
      let back = place-number axes lo hi i r b e in
      let sum : row * side + x ≡ k = omega (arith, ge) in
      let here : first + x ≡ i = sym (v.at x bx) ∙ ap (place axes lo hi) sum ∙ back in
      absurd (elim away [ inl p ↦ omega (arith, p, here) | inr p ↦ omega (arith, p, here, bx) ])
]

-- one row more is written
pub write_more : (w : ℕ) (axes lo hi : List ℕ) (side row first : ℕ) (value : ℕ → ℤ) (old cur new : List ℕ)
    → 0 < w → IsRectangle axes lo hi → Row axes lo hi side row first → RowsWritten w axes lo hi side row value old cur → length new ≡ length cur
    → ((x : ℕ) → x < side → pixel w new (first + x) ≡ value (row * side + x))
    → ((j : ℕ) → (j < first * w) ⊎ ((first + side) * w ≤ j) → slice_index new j ≡ slice_index cur j)
    → RowsWritten w axes lo hi side (row + 1) value old new
write_more w axes lo hi side row first value old cur new p r v done long inside outside = record {
  long = long ∙ done.long;
  done = λ i b e small. elim (cases_lt i first) [
    | inl lt ↦ pixel_away w first side i cur new outside (inl lt) ∙ done.done i b e (earlier axes lo hi side row first i r v b e small (inl lt))
    | inr ge ↦ elim (cases_lt i (first + side)) [
      | inl lt ↦
          let there : first + (i - first) ≡ i = omega (arith, ge) in
          let m = (in_row axes lo hi side row first i r v ge lt).1 in
          ap (pixel w new) (sym there) ∙ inside (i - first) (omega (arith, ge, lt)) ∙ ap value (sym m)
      | inr far ↦ pixel_away w first side i cur new outside (inr far) ∙ done.done i b e (earlier axes lo hi side row first i r v b e small (inr far))
    ]
  ];
  outside = λ j none.
      let before = done.outside j (λ i b e m. none i b e (omega (arith, m))) in
      elim (cases_lt j (first * w)) [
        | inl lt ↦ outside j (inl lt) ∙ before
        | inr ge ↦ elim (cases_lt j ((first + side) * w)) [
          | inl lt ↦
              let i : ℕ = j / w in
              let low : first ≤ i = (le-div_iff_mul-le p).1 ge in
              let high : i < first + side = (div-lt_iff_lt-mul p).1 lt in
              let f = in_row axes lo hi side row first i r v low high in
              absurd (none i (omega (arith, v.room, high)) f.0 (omega (arith, f.1, low, high)) refl)
          | inr far ↦ outside j (inr far) ∙ before
        ]
      ];
}

-- the same, by what is known of the loop
pub rows_more : (w : ℕ) (axes lo hi : List ℕ) (n count row first : ℕ) (value : ℕ → ℤ) (old cur new : List ℕ)
    → IsWidth w → IsRectangle axes lo hi → n ≡ row_size lo hi → count ≡ row_count lo hi → row < count → first ≡ place axes lo hi (row * row_size lo hi)
    → RowsWritten w axes lo hi (row_size lo hi) row value old cur → length new ≡ length cur
    → ((x : ℕ) → x < n → pixel w new (first + x) ≡ value (row * n + x))
    → ((j : ℕ) → (j < first * w) ⊎ ((first + n) * w ≤ j) → slice_index new j ≡ slice_index cur j)
    → RowsWritten w axes lo hi (row_size lo hi) (row + 1) value old new
rows_more w axes lo hi n count row first value old cur new h r e rows b f done long inside outside =
    let v = row_of axes lo hi row first r (omega (arith, b, rows)) f in
    let some : 0 < w = let range = width_range w h in omega (arith, range.0) in
    write_more w axes lo hi (row_size lo hi) row first value old cur new some r v done long
    (λ x b. subst (λ m. pixel w new (first + x) ≡ value (row * m + x)) e (inside x (omega (arith, e, b))))
    (λ j away. elim away [ inl p ↦ outside j (inl p) | inr p ↦ outside j (inr (subst (λ m. (first + m) * w ≤ j) (sym e) p)) ])

-- when all rows are written, the rectangle is
pub write_all : (w : ℕ) (axes lo hi : List ℕ) (row : ℕ) (value : ℕ → ℤ) (old new : List ℕ) → IsRectangle axes lo hi
    → RowsWritten w axes lo hi (row_size lo hi) row value old new → row_count lo hi ≤ row → IsWritten w axes lo hi value old new
write_all w axes lo hi row value old new r done full =
    let all = mul-le-mul_left (row_size lo hi) full in
    let split = rectangle_size-rows lo hi in
    record {
      long = done.long;
      inside = λ i b e.
          let small = number-lt-size axes lo hi i r b e in
          done.done i b e (omega (arith, all, split, small)) ∙ ap value (sym (rank-number axes lo hi i r b e));
      outside = λ j none. done.outside j (λ i b e m. none i b e);
    }

-- the values of one row
pub record Part (values : List ℤ) (at n : ℕ) (part : List ℤ) : Type 0 where
  pub long : length part ≡ n
  pub is : (x : ℕ) → x < n → get_or part x (pos 0) ≡ get_or values (at + x) (pos 0)

-- a part of a list has the values from its place on
pub part_of : (values : List ℤ) (at n : ℕ) → at + n ≤ length values → Part values at n (take (at + n - at) (drop at values))
part_of values at n h = record {
  long = omega (arith, length-take (at + n - at) (drop at values), length-drop at values);
  is = λ x b. let near : x < at + n - at = omega arith in get_or-take (at + n - at) (drop at values) x (pos 0) near ∙ get_or-drop at values x (pos 0);
}

-- a row's bytes lie in the bytes
pub row_room : (first part n side all w old new : ℕ) → part ≡ n → n ≡ side → first + side ≤ all → all * w ≤ old → new ≡ old → (first + part) * w ≤ new
row_room first part n side all w old new e f within h long =
    let more = mul-le-mul_right w (let short : first + part ≤ all = omega (arith, e, f, within) in short) in
    omega (arith, more, h, long)

-- a pixel's bytes lie in the bytes
pub pixel_room : (start x n w old new : ℕ) → x < n → (start + n) * w ≤ old → new ≡ old → (start + x + 1) * w ≤ new
pixel_room start x n w old new b h long =
    let more = mul-le-mul_right w (let short : start + x + 1 ≤ start + n = omega (arith, b) in short) in
    omega (arith, more, h, long)
