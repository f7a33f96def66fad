-- A rectangle that is read row by row.
use Rattle.std.proofs.Common.{◌≡◌, ◌<◌, ◌≤◌, ℕ, zero, suc, ◌+◌, ◌*◌, Bool, true, false, cond, List, [], ◌∷◌, ◌++◌, length, map, refl, arith, sym, ◌∙◌, ap, inl, inr, ℤ}
use Rattle.std.specs.Prelude.{filter, count_by}
use Rattle.std.specs.List.{range_with_len}
use Rattle.std.proofs.lemmas.Bool.{cases_Bool}
use Rattle.std.proofs.lemmas.List.{append_assoc, append-nil, map-append}
use Rattle.std.proofs.lemmas.List.Elements.{filter-append}
use Rattle.std.proofs.lemmas.List.FromFn.{map-range_with_len_more, length-map-range_with_len}
use Rattle.std.proofs.lemmas.List.Sums.{sum_by_push}
use Rattle.fits_plane.specs.Rectangle.{product, place, rank, rectangle_size, row_size, row_count, IsRectangle, is_inside, value_at, rectangle_values}
use Rattle.fits_plane.proofs.BlockLemmas.{range-append}
use Rattle.fits_plane.proofs.PlaceLemmas.{one_if, place-number, rank-number, rank-all}
use Rattle.fits_plane.proofs.RowLemmas.{Row, row_of, rectangle_size-rows}

-- what is made of two ranges, where it is the same of each place
pub map-ranges : {X : Type 0} (f g : ℕ → X) (a b n : ℕ) → ((x : ℕ) → x < n → f (a + x) ≡ g (b + x)) → map f (range_with_len a n) ≡ map g (range_with_len b n)
map-ranges f g a b zero h = refl
map-ranges f g a b (suc n) h =
    let p : a + 0 ≡ a = omega arith in
    let q : b + 0 ≡ b = omega arith in
    let first : f a ≡ g b = ap f (sym p) ∙ h 0 (omega arith) ∙ ap g q in
    let rest = map-ranges f g (a + 1) (b + 1) n (λ x l.
    let r : a + 1 + x ≡ a + suc x = omega arith in
    let s : b + 1 + x ≡ b + suc x = omega arith in
    ap f r ∙ h (suc x) (omega arith) ∙ ap g (sym s)) in
    rw (first, rest) refl

-- what is made of what is made
map-twice : {X Y Z : Type 0} (f : Y → Z) (g : X → Y) (xs : List X) → map f (map g xs) ≡ map (λ x. f (g x)) xs
map-twice f g [] = refl
map-twice f g (x ∷ xs) = ap (λ ys. f (g x) ∷ ys) (map-twice f g xs)

-- one value more of a run
pub value-more : (f : ℕ → ℤ) (a n : ℕ) (v : ℤ) (old cur new : List ℤ) → cur ≡ old ++ map f (range_with_len a n) → v ≡ f (a + n) → new ≡ cur ++ v ∷ [] → new ≡ old ++ map f (range_with_len a (n + 1))
value-more f a n v old cur new h e is =
    is ∙ ap (λ xs. xs ++ v ∷ []) h ∙ append_assoc old (map f (range_with_len a n)) (v ∷ []) ∙ ap (λ z. old ++ (map f (range_with_len a n) ++ z ∷ [])) e
    ∙ ap (λ xs. old ++ xs) (sym (map-range_with_len_more f a n (a + n) refl))

-- one place more of a range
range-more : (n : ℕ) → range_with_len 0 (n + 1) ≡ range_with_len 0 n ++ n ∷ []
range-more n = let e : 0 + n ≡ n = omega arith in range-append 0 n 1 ∙ ap (λ m. range_with_len 0 n ++ m ∷ []) e

-- a pixel of the rectangle adds one to the rank
rank-more : (axes lo hi : List ℕ) (n : ℕ) → rank axes lo hi (n + 1) ≡ rank axes lo hi n + one_if (is_inside axes lo hi n)
rank-more axes lo hi n = ap (count_by (is_inside axes lo hi)) (range-more n) ∙ sum_by_push (λ i. cond (is_inside axes lo hi i) 1 0) (range_with_len 0 n) n

-- the rectangle's pixels below n, where pixel n is the next
next_inside : (axes lo hi : List ℕ) (n : ℕ) → is_inside axes lo hi n ≡ true → place axes lo hi (rank axes lo hi n) ≡ n
    → filter (is_inside axes lo hi) (range_with_len 0 n) ≡ map (place axes lo hi) (range_with_len 0 (rank axes lo hi n))
    → filter (is_inside axes lo hi) (range_with_len 0 (n + 1)) ≡ map (place axes lo hi) (range_with_len 0 (rank axes lo hi (n + 1)))
next_inside axes lo hi n e at ih =
    let p : ℕ → Bool = is_inside axes lo hi in
    let cut : filter p (range_with_len 0 (n + 1)) ≡ filter p (range_with_len 0 n) ++ cond (p n) (n ∷ []) [] = ap (filter p) (range-more n) ∙ filter-append p (range_with_len 0 n) (n ∷ []) in
    let here : cond (p n) (n ∷ []) [] ≡ n ∷ [] = ap (λ b. cond b (n ∷ []) []) e in
    let count : rank axes lo hi (n + 1) ≡ rank axes lo hi n + 1 = rank-more axes lo hi n ∙ ap (λ b. rank axes lo hi n + one_if b) e in
    let more : map (place axes lo hi) (range_with_len 0 (rank axes lo hi n + 1)) ≡ map (place axes lo hi) (range_with_len 0 (rank axes lo hi n)) ++ place axes lo hi (rank axes lo hi n) ∷ [] =
    ap (map (place axes lo hi)) (range-more (rank axes lo hi n)) ∙ map-append (place axes lo hi) (range_with_len 0 (rank axes lo hi n)) (rank axes lo hi n ∷ []) in
    cut ∙ ap (λ ys. filter p (range_with_len 0 n) ++ ys) here ∙ ap (λ ys. ys ++ n ∷ []) ih
    ∙ ap (λ m. map (place axes lo hi) (range_with_len 0 (rank axes lo hi n)) ++ m ∷ []) (sym at) ∙ sym more
    ∙ ap (λ m. map (place axes lo hi) (range_with_len 0 m)) (sym count)

-- and where it is of no such pixel
next_outside : (axes lo hi : List ℕ) (n : ℕ) → is_inside axes lo hi n ≡ false
    → filter (is_inside axes lo hi) (range_with_len 0 n) ≡ map (place axes lo hi) (range_with_len 0 (rank axes lo hi n))
    → filter (is_inside axes lo hi) (range_with_len 0 (n + 1)) ≡ map (place axes lo hi) (range_with_len 0 (rank axes lo hi (n + 1)))
next_outside axes lo hi n e ih =
    let p : ℕ → Bool = is_inside axes lo hi in
    let cut : filter p (range_with_len 0 (n + 1)) ≡ filter p (range_with_len 0 n) ++ cond (p n) (n ∷ []) [] = ap (filter p) (range-more n) ∙ filter-append p (range_with_len 0 n) (n ∷ []) in
    let here : cond (p n) (n ∷ []) [] ≡ [] = ap (λ b. cond b (n ∷ []) []) e in
    let count : rank axes lo hi (n + 1) ≡ rank axes lo hi n = rank-more axes lo hi n ∙ ap (λ b. rank axes lo hi n + one_if b) e ∙ omega arith in
    cut ∙ ap (λ ys. filter p (range_with_len 0 n) ++ ys) here ∙ append-nil (filter p (range_with_len 0 n)) ∙ ih
    ∙ ap (λ m. map (place axes lo hi) (range_with_len 0 m)) (sym count)

-- the rectangle's pixels below n are its first ones, by their places
inside-range : (axes lo hi : List ℕ) (n : ℕ) → IsRectangle axes lo hi → n ≤ product axes
    → filter (is_inside axes lo hi) (range_with_len 0 n) ≡ map (place axes lo hi) (range_with_len 0 (rank axes lo hi n))
inside-range axes lo hi zero r b = refl
inside-range axes lo hi (suc n) r b =
    let ih = inside-range axes lo hi n r (omega (arith, b)) in
    let up : n + 1 ≡ suc n = omega arith in
    ap (λ m. filter (is_inside axes lo hi) (range_with_len 0 m)) (sym up)
    ∙ elim (cases_Bool (is_inside axes lo hi n)) [
      | inl hit ↦ next_inside axes lo hi n hit (ap (place axes lo hi) (rank-number axes lo hi n r (omega (arith, b)) hit) ∙ place-number axes lo hi n r (omega (arith, b)) hit) ih
      | inr miss ↦ next_outside axes lo hi n miss ih
    ]
    ∙ ap (λ m. map (place axes lo hi) (range_with_len 0 (rank axes lo hi m))) up

module _ (w : ℕ) (bytes axes lo hi : List ℕ) (offset : ℤ) where
  -- the values of the rectangle's first n pixels
  abbrev pub first_values : ℕ → List ℤ
  first_values n = map (λ k. value_at w bytes offset (place axes lo hi k)) (range_with_len 0 n)

  -- those of all are the rectangle's
  pub first_values-all : IsRectangle axes lo hi → first_values (rectangle_size lo hi) ≡ rectangle_values w bytes axes lo hi offset
  unfolding rectangle_values
  first_values-all r =
      sym (ap (map (value_at w bytes offset)) (inside-range axes lo hi (product axes) r (omega arith) ∙ ap (λ m. map (place axes lo hi) (range_with_len 0 m)) (rank-all axes lo hi r))
      ∙ map-twice (value_at w bytes offset) (place axes lo hi) (range_with_len 0 (rectangle_size lo hi)))

  -- as many as the rectangle has pixels
  pub length-rectangle_values : IsRectangle axes lo hi → length (rectangle_values w bytes axes lo hi offset) ≡ rectangle_size lo hi
  length-rectangle_values r =
      ap length (sym (first_values-all r)) ∙ length-map-range_with_len (λ k. value_at w bytes offset (place axes lo hi k)) 0 (rectangle_size lo hi)

  -- one row more is read
  row_read : (side row first : ℕ) → Row axes lo hi side row first → first_values (row * side) ++ map (value_at w bytes offset) (range_with_len first side) ≡ first_values ((row + 1) * side)
  row_read side row first v =
      let f : ℕ → ℤ = λ k. value_at w bytes offset (place axes lo hi k) in
      let part : map (value_at w bytes offset) (range_with_len first side) ≡ map f (range_with_len (0 + row * side) side) = map-ranges (value_at w bytes offset) f first (0 + row * side) side (λ x b.
      let z : 0 + row * side + x ≡ row * side + x = omega arith in
      ap (value_at w bytes offset) (sym (v.at x b)) ∙ ap f (sym z)) in
      let up : row * side + side ≡ (row + 1) * side = omega arith in
      ap (λ ys. first_values (row * side) ++ ys) part
      ∙ sym (map-append f (range_with_len 0 (row * side)) (range_with_len (0 + row * side) side))
      ∙ ap (map f) (sym (range-append 0 (row * side) side)) ∙ ap first_values up

  -- the same, by what is known of the loop
  pub rows_read : (n count row first : ℕ) (old cur new : List ℤ) → IsRectangle axes lo hi → n ≡ row_size lo hi → count ≡ row_count lo hi → row < count
      → first ≡ place axes lo hi (row * row_size lo hi) → cur ≡ old ++ first_values (row * row_size lo hi)
      → new ≡ cur ++ map (value_at w bytes offset) (range_with_len first n) → new ≡ old ++ first_values ((row + 1) * row_size lo hi)
  rows_read n count row first old cur new r e rows b f done is =
      let side : ℕ = row_size lo hi in
      let v = row_of axes lo hi row first r (omega (arith, b, rows)) f in
      is ∙ ap (λ m. cur ++ map (value_at w bytes offset) (range_with_len first m)) e ∙ ap (λ xs. xs ++ map (value_at w bytes offset) (range_with_len first side)) done
      ∙ append_assoc old (first_values (row * side)) (map (value_at w bytes offset) (range_with_len first side))
      ∙ ap (λ ys. old ++ ys) (row_read side row first v)

  -- all rows are read
  pub all_read : (row : ℕ) (old new : List ℤ) → IsRectangle axes lo hi → row ≡ row_count lo hi → new ≡ old ++ first_values (row * row_size lo hi)
      → new ≡ old ++ rectangle_values w bytes axes lo hi offset
  all_read row old new r e is =
      let all : row * row_size lo hi ≡ rectangle_size lo hi = ap (λ m. m * row_size lo hi) e ∙ omega (arith, rectangle_size-rows lo hi) in
      is ∙ ap (λ m. old ++ first_values m) all ∙ ap (λ ys. old ++ ys) (first_values-all r)
