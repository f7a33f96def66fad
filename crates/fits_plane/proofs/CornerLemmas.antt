-- A rectangle, axis by axis.
use Rattle.std.proofs.Common.{◌≡◌, ◌<◌, ◌≤◌, ◌↔◌, ℕ, zero, suc, IsTrue, false, List, [], ◌∷◌, length, get_or, arith, true, refl}
use Rattle.std.proofs.lemmas.Bool.Decides.{nat_tests}
use Rattle.std.proofs.lemmas.Bool.{and_parts, and_from, le-leb, leb-true}
use Rattle.fits_plane.specs.Rectangle.{IsRectangle, lies_within, LiesWithinDecides}

-- the corners of one axis lie in it
pub record LieIn (axis low high : ℕ) : Type 0 where
  pub some : 1 ≤ low
  pub order : low ≤ high
  pub room : high ≤ axis

-- those of each axis of a rectangle do
pub corners_lie : (axes lo hi : List ℕ) (i : ℕ) → IsRectangle axes lo hi → i < length axes → LieIn (get_or axes i 0) (get_or lo i 0) (get_or hi i 0)
corners_lie [] [] [] i r b = absurd (omega arith)
corners_lie (a ∷ axes) (l ∷ lo) (h ∷ hi) zero r b = record { some = r.0; order = r.1; room = r.2 }
corners_lie (a ∷ axes) (l ∷ lo) (h ∷ hi) (suc i) r b = corners_lie axes lo hi i r.3 (omega arith)
corners_lie _ _ _ i r b = elim r [ ]

-- and corners that all do make a rectangle
pub corners_make : (axes lo hi : List ℕ) → length lo ≡ length axes → length hi ≡ length axes
    → ((i : ℕ) → i < length axes → LieIn (get_or axes i 0) (get_or lo i 0) (get_or hi i 0)) → IsRectangle axes lo hi
corners_make [] [] [] e f each = tt
corners_make (a ∷ axes) (l ∷ lo) (h ∷ hi) e f each =
    let first = each 0 (omega arith) in
    (first.some, first.order, first.room, corners_make axes lo hi (omega (arith, e)) (omega (arith, f)) (λ i b. each (suc i) (omega (arith, b))))
corners_make [] (l ∷ lo) hi e f each = absurd (omega (arith, e))
corners_make [] [] (h ∷ hi) e f each = absurd (omega (arith, f))
corners_make (a ∷ axes) [] hi e f each = absurd (omega (arith, e))
corners_make (a ∷ axes) (l ∷ lo) [] e f each = absurd (omega (arith, f))

-- a test that fails, of what doesn't hold
pub refuted : (P : Type 0) → (P → ⊥) → IsTrue false ↔ P
refuted P never = (λ t. absurd (grind (arith, nat_tests)), λ p. absurd (never p))

-- corners that pass the test make a rectangle
within_is : (axes lo hi : List ℕ) → lies_within axes lo hi ≡ true → IsRectangle axes lo hi
unfolding lies_within
within_is [] [] [] e = tt
within_is (a ∷ axes) (l ∷ lo) (h ∷ hi) e =
    let first = and_parts _ _ e in
    let second = and_parts _ _ first.1 in
    let third = and_parts _ _ second.1 in
    (leb-true _ _ first.0, leb-true _ _ second.0, leb-true _ _ third.0, within_is axes lo hi third.1)
within_is [] (l ∷ lo) hi e = absurd (cc e)
within_is [] [] (h ∷ hi) e = absurd (cc e)
within_is (a ∷ axes) [] hi e = absurd (cc e)
within_is (a ∷ axes) (l ∷ lo) [] e = absurd (cc e)

-- those of a rectangle pass it
is_within : (axes lo hi : List ℕ) → IsRectangle axes lo hi → lies_within axes lo hi ≡ true
unfolding lies_within
is_within [] [] [] r = refl
is_within (a ∷ axes) (l ∷ lo) (h ∷ hi) r =
    and_from _ _ (le-leb _ _ r.0) (and_from _ _ (le-leb _ _ r.1) (and_from _ _ (le-leb _ _ r.2) (is_within axes lo hi r.3)))
is_within _ _ _ r = elim r [ ]

-- both
pub lies_within_decides : LiesWithinDecides
lies_within_decides axes lo hi = (λ e. within_is axes lo hi e, λ r. is_within axes lo hi r)
