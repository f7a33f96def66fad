-- Pieces that a rectangle wants, and that aren't in memory.
use Rattle.std.proofs.Common.{◌≡◌, ◌≤◌, ◌<◌, ◌+◌, ◌-◌, ◌*◌, ◌/◌, ℕ, zero, suc, Bool, true, false, cond, List, [], ◌∷◌, ◌++◌, length, get_or, max, min, refl, arith, subst, sym, ◌∙◌, ap, inl, inr}
use Rattle.std.specs.Prelude.{Contains, filter, not, if◌then◌else◌, ◌&&◌}
use Rattle.std.specs.List.{range_with_len}
use Rattle.std.proofs.Math.Nat.{div-eq_of_lt-le, mul-le-mul_left}
use Rattle.std.proofs.lemmas.Bool.{cases_lt, cases_Bool}
use Rattle.std.proofs.lemmas.List.{append_assoc, append-nil}
use Rattle.std.proofs.lemmas.List.Elements.{filter-append, Contains-append_right}
use Rattle.fits_pixels.specs.declared.layout.Layout.{Layout}
use Rattle.fits_plane.specs.Rectangle.{is_inside, place, product, row_count, row_size, IsRectangle}
use Rattle.fits_plane.specs.Work.{is_touched}
use Rattle.fits_plane.proofs.BlockLemmas.{any_found, div-grows, range-append, row_blocks}
use Rattle.fits_plane.proofs.PlaceLemmas.{number, number-lt-size}
use Rattle.fits_plane.proofs.RowLemmas.{rectangle_size-rows, row_of}
use Rattle.fits_pieces.specs.Piece.{piece_pixels}
use Rattle.fits_pieces.specs.Pieces.{is_missing, missing_pieces, HoldsRectangle}

-- one number more of a range, if it passes
pub filter-more : (p : ℕ → Bool) (from j : ℕ) (held : Bool) (old cur new : List ℕ) → from ≤ j → p j ≡ not held → cur ≡ old ++ filter p (range_with_len from (j - from)) → new ≡ cur ++ (if held then [] else j ∷ []) → new ≡ old ++ filter p (range_with_len from (j + 1 - from))
filter-more p from j held old cur new low e before is =
    let n : ℕ = j - from in
    let at : from + n ≡ j = omega (arith, low) in
    let more : j + 1 - from ≡ n + 1 = omega (arith, low) in
    let last : filter p (range_with_len from (n + 1)) ≡ filter p (range_with_len from n) ++ (if held then [] else j ∷ []) =
    ap (filter p) (range-append from n 1 ∙ ap (λ k. range_with_len from n ++ k ∷ []) at) ∙ filter-append p (range_with_len from n) (j ∷ []) ∙ ap (λ ys. filter p (range_with_len from n) ++ ys) (one p j held e) in
    is ∙ ap (λ xs. xs ++ (if held then [] else j ∷ [])) before ∙ append_assoc old (filter p (range_with_len from n)) (if held then [] else j ∷ []) ∙ ap (λ ys. old ++ ys) (sym last) ∙ ap (λ k. old ++ filter p (range_with_len from k)) (sym more)
  where
    one : (p : ℕ → Bool) (j : ℕ) (held : Bool) → p j ≡ not held → filter p (j ∷ []) ≡ (if held then [] else j ∷ [])
    one p j true e = ap (λ b. cond b (j ∷ []) []) e
    one p j false e = ap (λ b. cond b (j ∷ []) []) e

-- the same tests pass the same of a range
filter-same : (p q : ℕ → Bool) (a n : ℕ) → ((k : ℕ) → a ≤ k → k < a + n → p k ≡ q k) → filter p (range_with_len a n) ≡ filter q (range_with_len a n)
filter-same p q a zero h = refl
filter-same p q a (suc n) h =
    let rest = filter-same p q (a + 1) n (λ k l b. h k (omega arith) (omega arith)) in
    ap (λ b. cond b (a ∷ filter p (range_with_len (a + 1) n)) (filter p (range_with_len (a + 1) n))) (h a (omega arith) (omega arith))
    ∙ ap (λ ys. cond (q a) (a ∷ ys) ys) rest

-- none of a range passes that fail
pub filter-none : (p : ℕ → Bool) (a n : ℕ) → ((k : ℕ) → a ≤ k → k < a + n → p k ≡ false) → filter p (range_with_len a n) ≡ []
filter-none p a zero h = refl
filter-none p a (suc n) h =
    ap (λ b. cond b (a ∷ filter p (range_with_len (a + 1) n)) (filter p (range_with_len (a + 1) n))) (h a (omega arith) (omega arith))
    ∙ filter-none p (a + 1) n (λ k l b. h k (omega arith) (omega arith))

-- each piece of a row has a pixel of the rectangle
pub row_touched : (axes lo hi : List ℕ) (per n row first next start stop : ℕ) → IsRectangle axes lo hi → product axes ≡ n → 0 < per → row < row_count lo hi → first ≡ place axes lo hi (row * row_size lo hi)
    → start ≡ max (first / per) next → stop ≡ (first + row_size lo hi - 1) / per + 1 → (k : ℕ) → start ≤ k → k < stop → is_touched axes lo hi per n k ≡ true
row_touched axes lo hi per n row first next start stop r whole some below at es et k low high =
    let w = row_of axes lo hi row first r below at in
    (row_blocks axes lo hi (row_size lo hi) per n row first r whole some w).touched k (omega (arith, low, es)) (omega (arith, high, et))

module _ (axes lo hi : List ℕ) (per n row first next start stop next' : ℕ) (held : List Bool) (r : IsRectangle axes lo hi) (whole : product axes ≡ n) (some : 0 < per) (below : row < row_count lo hi)
    (at : first ≡ place axes lo hi (row * row_size lo hi)) (es : start ≡ max (first / per) next) (et : stop ≡ (first + row_size lo hi - 1) / per + 1) (en : next' ≡ max next stop)
    (covered : (i : ℕ) → i < n → is_inside axes lo hi i ≡ true → number axes lo hi i < row * row_size lo hi → i / per < next) where
  -- does piece k have a pixel of the rectangle, and isn't it in memory?
  abbrev pub wants : ℕ → Bool
  wants k = is_touched axes lo hi per n k && not (get_or held k false)

  -- the row ends where it begins, or later
  order : first / per + 1 ≤ stop
  order =
      let w = row_of axes lo hi row first r below at in
      let up = div-grows per first (first + row_size lo hi - 1) some (omega (arith, w.some)) in
      omega (arith, et, up)

  -- those of one row more lie before the next piece
  pub covered_more : (i : ℕ) → i < n → is_inside axes lo hi i ≡ true → number axes lo hi i < (row + 1) * row_size lo hi → i / per < next'
  covered_more i b e m =
      let side : ℕ = row_size lo hi in
      elim (cases_lt (number axes lo hi i) (row * side)) [
        | inl lt ↦ omega (arith, covered i b e lt, en)
        | inr ge ↦
            let w = row_of axes lo hi row first r below at in
            let f = row_blocks axes lo hi side per n row first r whole some w in
            let up = div-grows per i (first + side - 1) some (omega (arith, f.sooner i b e ge m)) in
            omega (arith, up, et, en)
      ]

  -- a piece between the rows before and this one has no pixel
  gap : (k : ℕ) → next ≤ k → k < start → is_touched axes lo hi per n k ≡ false
  gap k low high = elim (cases_Bool (is_touched axes lo hi per n k)) [
    | inr no_pixel ↦ no_pixel
    | inl touched ↦
        let side : ℕ = row_size lo hi in
        let f = any_found (is_inside axes lo hi) (k * per) (min per (n - k * per)) touched in
        let i : ℕ = f.at in
        let inside : i < n = omega (arith, f.low, f.high) in
        let here : i / per ≡ k = div-eq_of_lt-le per (omega (arith, f.low)) (omega (arith, f.high)) in
        absurd (elim (cases_lt (number axes lo hi i) (row * side)) [
          | inl lt ↦ omega (arith, covered i inside f.passes lt, here, low)
          | inr ge ↦
              let w = row_of axes lo hi row first r below at in
              let later = (row_blocks axes lo hi side per n row first r whole some w).later i inside f.passes ge in
              omega (arith, div-grows per first i some later, here, high, es, low)
        ])
  ]

  -- the pieces of one row more are found
  pub row_found : (items items' : List ℕ) → items ≡ filter wants (range_with_len 0 next) → items' ≡ items ++ filter (λ j. not (get_or held j false)) (range_with_len start (stop - start)) → items' ≡ filter wants (range_with_len 0 next')
  row_found items items' before is = elim (cases_lt start stop) [
    | inr none ↦
        let empty : stop - start ≡ 0 = omega (arith, none) in
        let same : next ≡ next' = omega (arith, order, es, en, none) in
        is ∙ ap (λ k. items ++ filter (λ j. not (get_or held j false)) (range_with_len start k)) empty ∙ append-nil items ∙ before ∙ ap (λ k. filter wants (range_with_len 0 k)) same
    | inl lt ↦
        let all : next' ≡ next + (start - next + (stop - start)) = omega (arith, es, en, lt) in
        let here : 0 + next ≡ next = omega arith in
        let there : next + (start - next) ≡ start = omega (arith, es) in
        let cut : range_with_len 0 next' ≡ range_with_len 0 next ++ (range_with_len next (start - next) ++ range_with_len start (stop - start)) =
        ap (range_with_len 0) all ∙ range-append 0 next (start - next + (stop - start)) ∙ ap (λ k. range_with_len 0 next ++ range_with_len k (start - next + (stop - start))) here
        ∙ ap (λ ys. range_with_len 0 next ++ ys) (range-append next (start - next) (stop - start) ∙ ap (λ k. range_with_len next (start - next) ++ range_with_len k (stop - start)) there) in
        let between = filter-none wants next (start - next) (λ k l b. ap (λ t. t && not (get_or held k false)) (gap k l (omega (arith, b, there)))) in
        let wanted = filter-same (λ j. not (get_or held j false)) wants start (stop - start) (λ k l b. sym (ap (λ t. t && not (get_or held k false)) (row_touched axes lo hi per n row first next start stop r whole some below at es et k l (omega (arith, b, lt))))) in
        is ∙ ap (λ xs. xs ++ filter (λ j. not (get_or held j false)) (range_with_len start (stop - start))) before ∙ ap (λ ys. filter wants (range_with_len 0 next) ++ ys) wanted
        ∙ sym (ap (filter wants) cut ∙ filter-append wants (range_with_len 0 next) (range_with_len next (start - next) ++ range_with_len start (stop - start))
        ∙ ap (λ ys. filter wants (range_with_len 0 next) ++ ys) (filter-append wants (range_with_len next (start - next)) (range_with_len start (stop - start)) ∙ ap (λ ys. ys ++ filter wants (range_with_len start (stop - start))) between))
  ]

-- behind the pieces of all rows there are no more
pub all_found : (axes lo hi : List ℕ) (per n row next count : ℕ) (held : List Bool) (items : List ℕ) → IsRectangle axes lo hi → product axes ≡ n → 0 < per → row_count lo hi ≤ row
    → ((i : ℕ) → i < n → is_inside axes lo hi i ≡ true → number axes lo hi i < row * row_size lo hi → i / per < next) → next ≤ count
    → items ≡ filter (λ k. is_touched axes lo hi per n k && not (get_or held k false)) (range_with_len 0 next) → items ≡ filter (λ k. is_touched axes lo hi per n k && not (get_or held k false)) (range_with_len 0 count)
all_found axes lo hi per n row next count held items r whole some full covered room is =
    let want : ℕ → Bool = λ k. is_touched axes lo hi per n k && not (get_or held k false) in
    let rest : ℕ = count - next in
    let all : count ≡ next + rest = omega (arith, room) in
    let none = filter-none want (0 + next) rest (λ k l b. ap (λ t. t && not (get_or held k false)) (untouched k (omega (arith, l)))) in
    is ∙ sym (ap (λ m. filter want (range_with_len 0 m)) all ∙ ap (filter want) (range-append 0 next rest) ∙ filter-append want (range_with_len 0 next) (range_with_len (0 + next) rest)
    ∙ ap (λ ys. filter want (range_with_len 0 next) ++ ys) none ∙ append-nil (filter want (range_with_len 0 next)))
  where
    untouched : (k : ℕ) → next ≤ k → is_touched axes lo hi per n k ≡ false
    untouched k low = elim (cases_Bool (is_touched axes lo hi per n k)) [
      | inr no_pixel ↦ no_pixel
      | inl touched ↦
          let f = any_found (is_inside axes lo hi) (k * per) (min per (n - k * per)) touched in
          let i : ℕ = f.at in
          let inside : i < n = omega (arith, f.low, f.high) in
          let here : i / per ≡ k = div-eq_of_lt-le per (omega (arith, f.low)) (omega (arith, f.high)) in
          let small = number-lt-size axes lo hi i r (omega (arith, inside, whole)) f.passes in
          let rows = mul-le-mul_left (row_size lo hi) full in
          absurd (omega (arith, covered i inside f.passes (omega (arith, small, rows, rectangle_size-rows lo hi)), here, low))
    ]

-- ---- once they were loaded

-- a test that passes is one of those that pass of a range
kept_in : (p : ℕ → Bool) (a n k : ℕ) → a ≤ k → k < a + n → p k ≡ true → Contains (filter p (range_with_len a n)) k
kept_in p a n k low high e =
    let m : ℕ = k - a in
    let q : ℕ = n - m - 1 in
    let all : n ≡ m + suc q = omega (arith, low, high) in
    let here : a + m ≡ k = omega (arith, low) in
    let behind : List ℕ = filter p (range_with_len (k + 1) q) in
    let first : filter p (range_with_len k (suc q)) ≡ k ∷ behind = ap (λ b. cond b (k ∷ behind) behind) e in
    let cut : filter p (range_with_len a n) ≡ filter p (range_with_len a m) ++ (k ∷ behind) =
    ap (λ i. filter p (range_with_len a i)) all ∙ ap (filter p) (range-append a m (suc q)) ∙ filter-append p (range_with_len a m) (range_with_len (a + m) (suc q))
    ∙ ap (λ i. filter p (range_with_len a m) ++ filter p (range_with_len i (suc q))) here ∙ ap (λ ys. filter p (range_with_len a m) ++ ys) first in
    subst (λ xs. Contains xs k) (sym cut) (Contains-append_right (filter p (range_with_len a m)) (k ∷ behind) k (0, omega arith, refl))

-- where each piece that was missing is in memory, and each that was is still, the rectangle can be read and painted
pub holds_once_loaded : (axes lo hi : List ℕ) (layout : Layout) (old new : List Bool) → ((j : ℕ) → is_touched axes lo hi (piece_pixels layout.width) layout.pixels j ≡ true → j < length old)
    → ((j : ℕ) → Contains (missing_pieces axes lo hi layout old) j → get_or new j false ≡ true) → ((j : ℕ) → get_or old j false ≡ true → get_or new j false ≡ true) → HoldsRectangle axes lo hi layout new
holds_once_loaded axes lo hi layout old new inside loaded still = λ j touched. elim (cases_Bool (get_or old j false)) [
  | inl held ↦ still j held
  | inr away ↦ loaded j (kept_in (is_missing axes lo hi layout old) 0 (length old) j (omega arith) (omega (arith, inside j touched)) (ap (λ t. t && not (get_or old j false)) touched ∙ ap not away))
]
