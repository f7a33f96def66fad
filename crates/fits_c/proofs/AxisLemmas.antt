-- The corners of a rectangle, axis by axis.
use Rattle.std.proofs.Common.{◌≡◌, ◌<◌, ◌≤◌, ◌↔◌, ℕ, zero, suc, ◌+◌, ◌-◌, ◌*◌, ◌/◌, ◌%◌, List, [], ◌∷◌, length, get_or, drop, refl, arith, sym, ◌∙◌, ap}
use Rattle.std.proofs.Math.Nat.{mul-div_cancel_left, div-add-mod, mul-mod_left}
use Rattle.std.proofs.lemmas.List.{drop_more}
use Rattle.fits_plane.specs.Rectangle.{rectangle_size, IsRectangle}
use Rattle.fits_c.specs.Rows.{row_place, AreCorners}

-- the corners in an axis, and in those that follow
pub record Axis (lo hi : List ℕ) (i : ℕ) : Type 0 where
  pub within : i < length hi
  pub some : 1 ≤ get_or lo i 0
  pub ordered : get_or lo i 0 ≤ get_or hi i 0
  pub low_is : drop i lo ≡ get_or lo i 0 ∷ drop (i + 1) lo
  pub high_is : drop i hi ≡ get_or hi i 0 ∷ drop (i + 1) hi

-- they have as many coordinates
pub corners_like : (lo hi : List ℕ) → AreCorners lo hi → length hi ≡ length lo
corners_like [] [] c = refl
corners_like (l ∷ ls) (h ∷ hs) c = ap suc (corners_like ls hs c.2)
corners_like _ _ c = elim c [ ]

-- and are ordered
corner_order : (lo hi : List ℕ) (i : ℕ) → AreCorners lo hi → i < length lo → (1 ≤ get_or lo i 0) × (get_or lo i 0 ≤ get_or hi i 0)
corner_order [] [] i c b = absurd (omega arith)
corner_order (l ∷ ls) (h ∷ hs) zero c b = (c.0, c.1)
corner_order (l ∷ ls) (h ∷ hs) (suc i) c b = corner_order ls hs i c.2 (omega arith)
corner_order _ _ i c b = elim c [ ]

-- so each axis has them
pub axis_at : (lo hi : List ℕ) (i : ℕ) → AreCorners lo hi → i < length lo → Axis lo hi i
axis_at lo hi i c b =
    let within : i < length hi = omega (arith, b, corners_like lo hi c) in
    let order = corner_order lo hi i c b in
    record { within = within; some = order.0; ordered = order.1; low_is = drop_more lo i 0 b; high_is = drop_more hi i 0 within }

-- one axis of the size
pub size_more : (lo hi : List ℕ) (i : ℕ) → Axis lo hi i → rectangle_size (drop i lo) (drop i hi) ≡ (get_or hi i 0 + 1 - get_or lo i 0) * rectangle_size (drop (i + 1) lo) (drop (i + 1) hi)
size_more lo hi i a = ap (λ xs. rectangle_size xs (drop i hi)) a.low_is ∙ ap (λ ys. rectangle_size (get_or lo i 0 ∷ drop (i + 1) lo) ys) a.high_is

-- a number that a side divides is a size with that side, where its part is the rest of the size
pub size_step : (X : Type 0) (left side whole rest : ℕ) → X ↔ (left ≡ whole) → 0 < side → whole ≡ side * rest → left % side ≡ 0 → X ↔ (left / side ≡ rest)
size_step X left side whole rest x some e m =
    let back : left / side ≡ rest → left ≡ whole = λ q.
    let all : side * (left / side) + left % side ≡ left = div-add-mod left side in
    sym all ∙ ap (λ n. side * n + left % side) q ∙ ap (λ n. side * rest + n) m ∙ omega (arith, e) in
    (λ h. ap (λ n. n / side) (x.0 h ∙ e) ∙ mul-div_cancel_left rest some, λ q. x.1 (back q))

-- and else it is none
pub size_none : (X : Type 0) (left side whole rest : ℕ) → X ↔ (left ≡ whole) → whole ≡ side * rest → (left % side ≡ 0 → ⊥) → X → ⊥
size_none X left side whole rest x e m h =
    let turned : side * rest ≡ rest * side = omega arith in
    m (ap (λ n. n % side) (x.0 h ∙ e ∙ turned) ∙ mul-mod_left rest side)

-- one axis of a row
pub place_more : (lo hi : List ℕ) (i left : ℕ) → Axis lo hi i
    → row_place (drop i lo) (drop i hi) left
    ≡ (get_or lo i 0 + left % (get_or hi i 0 + 1 - get_or lo i 0)) ∷ row_place (drop (i + 1) lo) (drop (i + 1) hi) (left / (get_or hi i 0 + 1 - get_or lo i 0))
place_more lo hi i left a = ap (λ xs. row_place xs (drop i hi) left) a.low_is ∙ ap (λ ys. row_place (get_or lo i 0 ∷ drop (i + 1) lo) ys left) a.high_is

-- the corners of a rectangle
pub corners_of : (axes lo hi : List ℕ) → IsRectangle axes lo hi → AreCorners lo hi
corners_of [] [] [] is = is
corners_of (a ∷ axs) (l ∷ ls) (h ∷ hs) is = (is.0, is.1, corners_of axs ls hs is.3)
corners_of _ _ _ is = elim is [ ]
