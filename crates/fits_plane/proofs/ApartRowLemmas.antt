-- Rows so far apart that no block has pixels of two.
use Rattle.std.proofs.Common.{◌≡◌, ◌<◌, ◌≤◌, ℕ, ◌+◌, ◌-◌, ◌*◌, ◌/◌, List, [], ◌∷◌, max, refl, arith, ◌∙◌, ap, inl, inr}
use Rattle.std.specs.Prelude.{slice_index}
use Rattle.std.proofs.Math.Nat.{mul-le-mul_left, div-mul-le_self, le-div_iff_mul-le}
use Rattle.std.proofs.lemmas.Bool.{cases_lt, cases_eq}
use Rattle.fits_plane.specs.Rectangle.{product, place, rectangle_size, row_size, row_count, IsRectangle}
use Rattle.fits_plane.proofs.PlaceLemmas.{number, number-place, number_grows, inside_place, place-lt-product, place-in_row}
use Rattle.fits_plane.proofs.RowLemmas.{row_of, row_size_some}
use Rattle.fits_plane.proofs.BlockLemmas.{Walk, walk_begun, walk_more, div-grows}

-- the rectangle's pixels stand in order
place_grows : (axs ls hs : List ℕ) (k : ℕ) → IsRectangle axs ls hs → k + 1 < rectangle_size ls hs → place axs ls hs k < place axs ls hs (k + 1)
place_grows axs ls hs k r b =
    let i : ℕ = place axs ls hs k in
    let j : ℕ = place axs ls hs (k + 1) in
    let here = number-place axs ls hs k r (omega arith) in
    let there = number-place axs ls hs (k + 1) r b in
    elim (cases_lt i j) [
      | inl lt ↦ lt
      | inr ge ↦ elim (cases_eq j i) [
        | inl same ↦ let e = ap (number axs ls hs) same in absurd (omega (arith, e, here, there))
        | inr other ↦
            let up = number_grows axs ls hs j i r (omega (arith, ge, other)) (place-lt-product axs ls hs k r (omega arith)) (inside_place axs ls hs (k + 1) r b) (inside_place axs ls hs k r (omega arith)) in
            absurd (omega (arith, up, here, there))
      ]
    ]

-- a row begins no sooner than an axis after the row before it
row_grows : (axs ls hs : List ℕ) (row : ℕ) → IsRectangle axs ls hs → 0 < slice_index axs 0 → row + 1 < row_count ls hs
    → place axs ls hs (row * row_size ls hs) + slice_index axs 0 ≤ place axs ls hs ((row + 1) * row_size ls hs)
row_grows [] [] [] row r some b = absurd (omega (arith, some))
row_grows (a ∷ axs) (l ∷ ls) (h ∷ hs) row r some b =
    let side : ℕ = h + 1 - l in
    let any : 0 < side = omega (arith, r.0, r.1) in
    let first : place (a ∷ axs) (l ∷ ls) (h ∷ hs) (row * side) ≡ (l - 1) + a * place axs ls hs row = (let e : row * side ≡ row * side + 0 = omega arith in ap (place (a ∷ axs) (l ∷ ls) (h ∷ hs)) e) ∙ place-in_row a l h axs ls hs row 0 any ∙ omega arith in
    let second : place (a ∷ axs) (l ∷ ls) (h ∷ hs) ((row + 1) * side) ≡ (l - 1) + a * place axs ls hs (row + 1) = (let e : (row + 1) * side ≡ (row + 1) * side + 0 = omega arith in ap (place (a ∷ axs) (l ∷ ls) (h ∷ hs)) e) ∙ place-in_row a l h axs ls hs (row + 1) 0 any ∙ omega arith in
    let up = place_grows axs ls hs row r.3 b in
    let more = mul-le-mul_left a up in
    omega (arith, first, second, more)
row_grows _ _ _ row r some b = elim r [ ]

-- and past the blocks of that one
pub row_past : (axes lo hi : List ℕ) (per row first : ℕ) → IsRectangle axes lo hi → 0 < per → per + row_size lo hi ≤ slice_index axes 0 → row + 1 < row_count lo hi → first ≡ place axes lo hi (row * row_size lo hi)
    → (first + row_size lo hi - 1) / per + 1 ≤ place axes lo hi ((row + 1) * row_size lo hi) / per
row_past axes lo hi per row first r some far b at =
    let side : ℕ = row_size lo hi in
    let gap = row_grows axes lo hi row r (omega (arith, far, some)) b in
    (le-div_iff_mul-le some).1 (omega (arith, div-mul-le_self (first + side - 1) per, gap, at, far, row_size_some axes lo hi r))

-- the rows below `row` are walked over, and the next begins past their blocks
pub record ApartWalk (axes lo hi : List ℕ) (per n blocks side row scanned : ℕ) : Type 0 where
  pub next : ℕ
  pub walk : Walk axes lo hi per n blocks side row next scanned (λ k. Unit {0})
  pub ahead : row < row_count lo hi → next ≤ place axes lo hi (row * side) / per

-- before the first row
pub apart_begun : (axes lo hi : List ℕ) (per n blocks side scanned : ℕ) → scanned ≡ 0 → ApartWalk axes lo hi per n blocks side 0 scanned
apart_begun axes lo hi per n blocks side scanned none = record {
  next = 0;
  walk = walk_begun axes lo hi per n blocks side scanned (λ k. Unit {0}) none (λ k b e. tt);
  ahead = λ b. omega arith;
}

-- one row more is walked over
pub apart_more : (axes lo hi : List ℕ) (per n blocks row first scanned scanned' : ℕ) → IsRectangle axes lo hi → product axes ≡ n → 0 < per → n ≤ blocks * per → per + row_size lo hi ≤ slice_index axes 0
    → row < row_count lo hi → first ≡ place axes lo hi (row * row_size lo hi) → scanned' ≡ scanned + ((first + row_size lo hi - 1) / per + 1 - first / per)
    → ApartWalk axes lo hi per n blocks (row_size lo hi) row scanned → ApartWalk axes lo hi per n blocks (row_size lo hi) (row + 1) scanned'
apart_more axes lo hi per n blocks row first scanned scanned' r whole some room far b at count v =
    let side : ℕ = row_size lo hi in
    let stop : ℕ = (first + side - 1) / per + 1 in
    let before : v.next ≤ first / per = rw at (v.ahead b) in
    let start : first / per ≡ max (first / per) v.next = omega (arith, before) in
    record {
      next = max v.next stop;
      walk = walk_more axes lo hi side per n blocks row first v.next (first / per) stop (max v.next stop) scanned scanned' (λ k. Unit {0}) (λ k. Unit {0})
          r whole some room (row_of axes lo hi row first r b at) v.walk start refl refl count (λ k x y. tt) (λ k x y. tt);
      ahead = λ c.
          let second : ℕ = place axes lo hi ((row + 1) * side) in
          let gap = row_grows axes lo hi row r (omega (arith, far, some)) c in
          let past = row_past axes lo hi per row first r some far c at in
          let same = div-grows per first second some (omega (arith, gap, at)) in
          omega (arith, past, before, same);
    }
