-- The rows of a rectangle walk over the blocks that hold its pixels, each once and upwards.
use Rattle.std.proofs.Common.{◌≡◌, ◌<◌, ◌≤◌, ℕ, zero, suc, ◌+◌, ◌-◌, ◌*◌, ◌/◌, Bool, true, false, ◌||◌, List, ◌++◌, max, refl, arith, sym, ◌∙◌, ap, inl, inr, ◌⊎◌}
use Rattle.std.specs.Prelude.{count_by}
use Rattle.std.specs.List.{range_with_len, list_any}
use Rattle.std.proofs.Math.Nat.{add-mul, div-mul-le_self, le-div_iff_mul-le, div-lt_iff_lt-mul, div-eq_of_lt-le}
use Rattle.std.proofs.lemmas.Bool.{cases_lt}
use Rattle.std.proofs.lemmas.List.Sums.{sum_by-append, sum_by-cons}
use Rattle.fits_pixels.specs.Block.{held}
use Rattle.fits_plane.specs.Rectangle.{product, place, rectangle_size, IsRectangle, is_inside}
use Rattle.fits_plane.specs.Work.{is_touched, touched_blocks}
use Rattle.fits_plane.proofs.PlaceLemmas.{one_if, place-number, number-lt-size, number, number_grows}
use Rattle.fits_plane.proofs.RowLemmas.{Row, in_row}

-- ---- any of a range

-- a number of a range that passes makes any pass
pub any_at : (p : ℕ → Bool) (a n i : ℕ) → a ≤ i → i < a + n → p i ≡ true → list_any p (range_with_len a n) ≡ true
any_at p a zero i l h e = absurd (omega arith)
any_at p a (suc n) i l h e = elim (cases_lt a i) [
  | inl lt ↦ or_right (p a) _ (any_at p (a + 1) n i (omega arith) (omega arith) e)
  | inr ge ↦ let same : a ≡ i = omega arith in or_left (p a) _ (ap p same ∙ e)
]
  where
    or_right : (x y : Bool) → y ≡ true → (x || y) ≡ true
    or_right true y h = refl
    or_right false y h = h

    or_left : (x y : Bool) → x ≡ true → (x || y) ≡ true
    or_left true y h = refl
    or_left false y h = absurd (cc)

-- a number of a range that passes
pub record Passes (p : ℕ → Bool) (a n : ℕ) : Type 0 where
  pub at : ℕ
  pub low : a ≤ at
  pub high : at < a + n
  pub passes : p at ≡ true

-- the first of a range passes, or a later one does
found_case : (p : ℕ → Bool) (a n : ℕ) (b : Bool) → p a ≡ b → (list_any p (range_with_len (a + 1) n) ≡ true → Passes p (a + 1) n) → (p a || list_any p (range_with_len (a + 1) n)) ≡ true → Passes p a (suc n)
found_case p a n true e ih h = record { at = a; low = omega arith; high = omega arith; passes = e }
found_case p a n false e ih h = let f = ih (rw e at h) in record { at = f.at; low = omega (arith, f.low); high = omega (arith, f.high); passes = f.passes }

-- where any of a range passes, there is one that does
pub any_found : (p : ℕ → Bool) (a n : ℕ) → list_any p (range_with_len a n) ≡ true → Passes p a n
any_found p a zero h = absurd (cc)
any_found p a (suc n) h = found_case p a n (p a) refl (any_found p (a + 1) n) h

-- ---- counts over a range

-- a range of two runs
pub range-append : (a m n : ℕ) → range_with_len a (m + n) ≡ range_with_len a m ++ range_with_len (a + m) n
range-append a zero n = let e : a + 0 ≡ a = omega arith in let z : 0 + n ≡ n = omega arith in ap (range_with_len a) z ∙ ap (λ k. range_with_len k n) (sym e)
range-append a (suc m) n =
    let ih = range-append (a + 1) m n in
    let e : a + suc m ≡ a + 1 + m = omega arith in
    let z : suc m + n ≡ suc (m + n) = omega arith in
    rw (z, ih, e) refl

-- a count over two runs
pub count-append : (p : ℕ → Bool) (a m n : ℕ) → count_by p (range_with_len a (m + n)) ≡ count_by p (range_with_len a m) + count_by p (range_with_len (a + m) n)
count-append p a m n = ap (count_by p) (range-append a m n) ∙ sum_by-append (λ k. one_if (p k)) (range_with_len a m) (range_with_len (a + m) n)

-- a count of a range that passes whole
pub count-all : (p : ℕ → Bool) (a n : ℕ) → ((k : ℕ) → a ≤ k → k < a + n → p k ≡ true) → count_by p (range_with_len a n) ≡ n
count-all p a zero h = refl
count-all p a (suc n) h =
    let cut = sum_by-cons (λ k. one_if (p k)) a (range_with_len (a + 1) n) in
    let ih = count-all p (a + 1) n (λ k l b. h k (omega arith) (omega arith)) in
    let here : one_if (p a) ≡ one_if true = ap one_if (h a (omega arith) (omega arith)) in
    omega (arith, cut, ih, here)

-- ---- blocks

-- a later pixel lies in no earlier block
pub div-grows : (per i j : ℕ) → 0 < per → i ≤ j → i / per ≤ j / per
div-grows per i j p h = (le-div_iff_mul-le p).1 (omega (arith, div-mul-le_self i per, h))

-- a pixel lies before the block after its own
below_next : (per i : ℕ) → 0 < per → i < (i / per + 1) * per
below_next per i p = (div-lt_iff_lt-mul p).0 (omega arith)

-- a pixel of the rectangle touches its block
pub touched_by : (axes lo hi : List ℕ) (per n k i : ℕ) → 0 < per → i < n → is_inside axes lo hi i ≡ true → i / per ≡ k → is_touched axes lo hi per n k ≡ true
touched_by axes lo hi per n k i p b e at =
    let low : k * per ≤ i = rw (sym at) (div-mul-le_self i per) in
    let high : i < (k + 1) * per = rw (sym at) (below_next per i p) in
    any_at (is_inside axes lo hi) (k * per) (held per n k) i low (omega (arith, low, high, b)) e

-- a pixel of the rectangle in a block that is touched
pub record Held (axes lo hi : List ℕ) (per n k : ℕ) : Type 0 where
  pub at : ℕ
  pub within : at < n
  pub inside : is_inside axes lo hi at ≡ true
  pub block : at / per ≡ k

-- a block that is touched holds a pixel of the rectangle
pub held_in : (axes lo hi : List ℕ) (per n k : ℕ) → 0 < per → is_touched axes lo hi per n k ≡ true → Held axes lo hi per n k
held_in axes lo hi per n k p h =
    let f = any_found (is_inside axes lo hi) (k * per) (held per n k) h in
    record { at = f.at; within = omega (arith, f.low, f.high); inside = f.passes; block = div-eq_of_lt-le per f.low (omega (arith, f.high)) }

-- ---- the walk

-- the blocks below `next` are right, and so is each block that holds no pixel of the rectangle; the pixels of the rows that are done lie below `next`
pub record Walk (axes lo hi : List ℕ) (per n blocks side row next scanned : ℕ) (right : ℕ → Type 0) : Type 0 where
  pub fresh : (k : ℕ) → k < blocks → is_touched axes lo hi per n k ≡ false → right k
  pub below : (k : ℕ) → k < next → right k
  pub covered : (i : ℕ) → i < n → is_inside axes lo hi i ≡ true → number axes lo hi i < row * side → i / per < next
  pub counted : scanned ≤ touched_blocks axes lo hi per n next
  pub limit : next ≤ blocks

-- what is not touched
untouched_case : (b : Bool) → (b ≡ true → ⊥) → b ≡ false
untouched_case true h = elim (h refl) [ ]
untouched_case false h = refl

-- what a row of the rectangle is, in blocks
pub record RowBlocks (axes lo hi : List ℕ) (side per n row first : ℕ) : Type 0 where
  -- a pixel of no earlier row stands at the row's first or later
  pub later : (i : ℕ) → i < n → is_inside axes lo hi i ≡ true → row * side ≤ number axes lo hi i → first ≤ i
  -- a pixel of this row stands at its last or earlier
  pub sooner : (i : ℕ) → i < n → is_inside axes lo hi i ≡ true → row * side ≤ number axes lo hi i → number axes lo hi i < (row + 1) * side → i < first + side
  -- each block from the row's first to its last is touched
  pub touched : (k : ℕ) → first / per ≤ k → k < (first + side - 1) / per + 1 → is_touched axes lo hi per n k ≡ true

-- by where the row begins
pub row_blocks : (axes lo hi : List ℕ) (side per n row first : ℕ) → IsRectangle axes lo hi → product axes ≡ n → 0 < per → Row axes lo hi side row first → RowBlocks axes lo hi side per n row first
row_blocks axes lo hi side per n row first r whole p w =
    let some : 0 < side = w.some in
    let f = in_row axes lo hi side row first first r w (omega arith) (omega (arith, some)) in
    let zero_more : row * side + (first - first) ≡ row * side = omega arith in
    record {
      later = λ i b e m. elim (cases_lt i first) [
        | inl lt ↦ let up = number_grows axes lo hi i first r lt (omega (arith, w.room, some)) e f.0 in absurd (omega (arith, up, f.1, zero_more, m))
        | inr ge ↦ ge
      ];
      sooner = λ i b e m u.
          let x : ℕ = number axes lo hi i - row * side in
          let bx : x < side = omega (arith, m, u) in
          let back = place-number axes lo hi i r (omega (arith, whole, b)) e in
          let sum : row * side + x ≡ number axes lo hi i = omega (arith, m) in
          let here : first + x ≡ i = sym (w.at x bx) ∙ ap (place axes lo hi) sum ∙ back in
          omega (arith, here, bx);
      touched = λ k low high.
          let i : ℕ = max first (k * per) in
          let from : first < (k + 1) * per = (div-lt_iff_lt-mul p).0 (omega (arith, low)) in
          let to : k * per ≤ first + side - 1 = (le-div_iff_mul-le p).0 (omega (arith, high)) in
          let inside = in_row axes lo hi side row first i r w (omega arith) (omega (arith, to, some)) in
          let at : i / per ≡ k = div-eq_of_lt-le per (omega arith) (omega (arith, from, p)) in
          touched_by axes lo hi per n k i p (omega (arith, to, some, w.room, whole)) inside.0 at;
    }

-- one row more is walked over
pub walk_more : (axes lo hi : List ℕ) (side per n blocks row first next start stop next' scanned scanned' : ℕ) (right right' : ℕ → Type 0)
    → IsRectangle axes lo hi → product axes ≡ n → 0 < per → n ≤ blocks * per → Row axes lo hi side row first
    → Walk axes lo hi per n blocks side row next scanned right
    → start ≡ max (first / per) next → stop ≡ (first + side - 1) / per + 1 → next' ≡ max next stop → scanned' ≡ scanned + (stop - start)
    → ((k : ℕ) → start ≤ k → k < stop → right' k) → ((k : ℕ) → (k < start) ⊎ (stop ≤ k) → right k → right' k)
    → Walk axes lo hi per n blocks side (row + 1) next' scanned' right'
walk_more axes lo hi side per n blocks row first next start stop next' scanned scanned' right right' r whole p room w v es et en ec made kept =
    let some : 0 < side = w.some in
    let t = row_blocks axes lo hi side per n row first r whole p w in
    let move : (k : ℕ) → right k → right' k = λ k x. elim (cases_lt k start) [
      | inl lt ↦ kept k (inl lt) x
      | inr ge ↦ elim (cases_lt k stop) [ inl lt ↦ made k ge lt | inr far ↦ kept k (inr far) x ]
    ] in
    let end : (first + side - 1) / per < blocks = (div-lt_iff_lt-mul p).1 (omega (arith, w.room, whole, room, some)) in
    let fb_le : first / per ≤ (first + side - 1) / per = div-grows per first (first + side - 1) p (omega (arith, some)) in
    record {
      fresh = λ k b e. move k (v.fresh k b e);
      below = λ k b. elim (cases_lt k next) [
        | inl lt ↦ move k (v.below k lt)
        | inr ge ↦ elim (cases_lt k start) [
          | inl lt ↦ move k (v.fresh k (omega (arith, b, en, et, end, v.limit)) (untouched_case (is_touched axes lo hi per n k) (λ y.
              let f = held_in axes lo hi per n k p y in
              elim (cases_lt (number axes lo hi f.at) (row * side)) [
                | inl few ↦ let c = v.covered f.at f.within f.inside few in absurd (omega (arith, c, f.block, ge))
                | inr many ↦ let c = div-grows per first f.at p (t.later f.at f.within f.inside many) in absurd (omega (arith, c, f.block, es, lt, ge))
              ])))
          | inr from ↦ made k from (omega (arith, b, en, ge))
        ]
      ];
      covered = λ i b e small. elim (cases_lt (number axes lo hi i) (row * side)) [
        | inl few ↦ let c = v.covered i b e few in omega (arith, c, en)
        | inr many ↦ let u = t.sooner i b e many small in let c = div-grows per i (first + side - 1) p (omega (arith, u)) in omega (arith, c, en, et)
      ];
      counted = elim (cases_lt next stop) [
        | inl lt ↦
            let q = is_touched axes lo hi per n in
            let e : next' ≡ next + ((start - next) + (stop - start)) = omega (arith, en, es, et, lt, fb_le) in
            let here : next + (start - next) ≡ start = omega (arith, es) in
            let one = count-append q 0 next ((start - next) + (stop - start)) in
            let two = count-append q (0 + next) (start - next) (stop - start) in
            let mid : 0 + next + (start - next) ≡ start = omega (arith, here) in
            let three : count_by q (range_with_len (0 + next + (start - next)) (stop - start)) ≡ stop - start = ap (λ m. count_by q (range_with_len m (stop - start))) mid ∙ count-all q start (stop - start) (λ k low high. t.touched k (omega (arith, low, es)) (omega (arith, high, et, low))) in
            let all : touched_blocks axes lo hi per n next' ≡ count_by q (range_with_len 0 (next + ((start - next) + (stop - start)))) = ap (λ m. count_by q (range_with_len 0 m)) e in
            omega (arith, all, one, two, three, v.counted, ec)
        | inr ge ↦
            let e : next' ≡ next = omega (arith, en, ge) in
            let none : scanned' ≡ scanned = omega (arith, ec, es, ge) in
            rw (e, none) v.counted
      ];
      limit = omega (arith, en, et, end, v.limit);
    }

-- when all rows are walked over, each block is right
pub walk_all : (axes lo hi : List ℕ) (side per n blocks row next scanned : ℕ) (right : ℕ → Type 0) → IsRectangle axes lo hi → product axes ≡ n → 0 < per
    → Walk axes lo hi per n blocks side row next scanned right → rectangle_size lo hi ≤ row * side → (k : ℕ) → k < blocks → right k
walk_all axes lo hi side per n blocks row next scanned right r whole p v full k b = go (is_touched axes lo hi per n k) refl
  where
    go : (t : Bool) → is_touched axes lo hi per n k ≡ t → right k
    go false e = v.fresh k b e
    go true e =
        let f = held_in axes lo hi per n k p e in
        let small = number-lt-size axes lo hi f.at r (omega (arith, whole, f.within)) f.inside in
        let c = v.covered f.at f.within f.inside (omega (arith, small, full)) in
        v.below k (omega (arith, c, f.block))

-- and no more blocks were scanned than hold a pixel of the rectangle
pub walk_work : (axes lo hi : List ℕ) (per n blocks side row next scanned : ℕ) (right : ℕ → Type 0) → Walk axes lo hi per n blocks side row next scanned right → scanned ≤ touched_blocks axes lo hi per n blocks
walk_work axes lo hi per n blocks side row next scanned right v =
    let e : blocks ≡ next + (blocks - next) = omega (arith, v.limit) in
    let all : touched_blocks axes lo hi per n blocks ≡ touched_blocks axes lo hi per n (next + (blocks - next)) = ap (touched_blocks axes lo hi per n) e in
    omega (arith, all, count-append (is_touched axes lo hi per n) 0 next (blocks - next), v.counted)

-- joins of some blocks and of some more
pub joins_more : (some more all d a b c : ℕ) → all ≡ some + more → b ≤ a + some * d → c ≤ b + more * d → c ≤ a + all * d
joins_more some more all d a b c e p q = let sum : all * d ≡ some * d + more * d = ap (λ m. m * d) e ∙ add-mul some more d in omega (arith, sum, p, q)

-- a row ends within the blocks
pub stop_room : (first n side per all pixels blocks : ℕ) → 0 < per → n ≡ side → 0 < n → first + side ≤ all → all ≡ pixels → pixels ≤ blocks * per → (first + n - 1) / per + 1 ≤ blocks
stop_room first n side per all pixels blocks p e some within whole room =
    let end : (first + n - 1) / per < blocks = (div-lt_iff_lt-mul p).1 (omega (arith, e, some, within, whole, room)) in
    omega (arith, end)

-- before the first row
pub walk_begun : (axes lo hi : List ℕ) (per n blocks side scanned : ℕ) (right : ℕ → Type 0) → scanned ≡ 0 → ((k : ℕ) → k < blocks → is_touched axes lo hi per n k ≡ false → right k) → Walk axes lo hi per n blocks side 0 0 scanned right
walk_begun axes lo hi per n blocks side scanned right none fresh = record {
  fresh = fresh;
  below = λ k b. absurd (omega (arith, b));
  covered = λ i b e small. absurd (omega (arith, small));
  counted = omega (arith, none);
  limit = omega arith;
}
