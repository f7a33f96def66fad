-- The pieces that a rectangle wants, for who loads them one after another: which they are and how many, and that it wants no more once each was loaded.
use Rattle.std.proofs.Common.{◌≡◌, ◌≤◌, ◌<◌, ◌+◌, ◌*◌, ◌-◌, ℕ, zero, suc, Bool, true, false, cond, List, [], ◌∷◌, length, get_or, min, refl, arith, subst, ◌∙◌, ap, inl, inr}
use Rattle.std.specs.Prelude.{filter, not, ◌&&◌}
use Rattle.std.specs.List.{range_with_len}
use Rattle.std.proofs.Math.Nat.{lt_of_mul-lt-mul_right}
use Rattle.std.proofs.lemmas.Bool.{cases_Bool}
use Rattle.std.proofs.lemmas.List.{get_or_default}
use Rattle.std.proofs.lemmas.List.FromFn.{length-range_with_len}
use Rattle.std.proofs.lemmas.List.Sums.{count_by-le-length, length-filter}
use Rattle.fits_pixels.specs.declared.layout.Layout.{Layout}
use Rattle.fits_pixels.specs.Layout.{IsLayout}
use Rattle.fits_plane.specs.Rectangle.{is_inside}
use Rattle.fits_plane.specs.Work.{is_touched}
use Rattle.fits_plane.proofs.BlockLemmas.{any_found}
use Rattle.fits_pieces.specs.Piece.{piece_pixels, pieces_in}
use Rattle.fits_pieces.specs.Pieces.{is_missing, missing_pieces, HoldsRectangle}
use Rattle.fits_pieces.proofs.MissingLemmas.{filter-none, holds_once_loaded}
use Rattle.fits_pieces.proofs.PiecesLemmas.{pixels_room}

-- ---- what passes of a range

-- a number of a range passes
record Passed (p : ℕ → Bool) (a n x : ℕ) : Type 0 where
  low : a ≤ x
  high : x < a + n
  passes : p x ≡ true

-- if those behind the first do, each does
passed_case : (p : ℕ → Bool) (a n : ℕ) (rest : List ℕ) → ((i : ℕ) → i < length rest → Passed p (a + 1) n (get_or rest i 0)) → (k : ℕ) (t : Bool) → p a ≡ t → k < length (cond t (a ∷ rest) rest)
    → Passed p a (suc n) (get_or (cond t (a ∷ rest) rest) k 0)
passed_case p a n rest ih zero true e b = record { low = omega arith; high = omega arith; passes = e }
passed_case p a n rest ih (suc i) true e b =
    let f = ih i (omega (arith, b)) in
    record { low = omega (arith, f.low); high = omega (arith, f.high); passes = f.passes }
passed_case p a n rest ih k false e b =
    let f = ih k b in
    record { low = omega (arith, f.low); high = omega (arith, f.high); passes = f.passes }

-- each of those that pass does
passed_at : (p : ℕ → Bool) (a n k : ℕ) → k < length (filter p (range_with_len a n)) → Passed p a n (get_or (filter p (range_with_len a n)) k 0)
passed_at p a zero k b = absurd (omega (arith, b))
passed_at p a (suc n) k b = passed_case p a n (filter p (range_with_len (a + 1) n)) (λ i h. passed_at p (a + 1) n i h) k (p a) refl b

-- ---- the pieces that are missing

-- both tests pass
left_of : (s t : Bool) → (s && t) ≡ true → s ≡ true
left_of true t e = refl
left_of false t e = e

-- of two that hold the second does
right_of : (s t : Bool) → (s && t) ≡ true → t ≡ true
right_of true t e = e
right_of false t e = absurd (cc)

-- each is a piece of the unit
pub missing_within : (axes lo hi : List ℕ) (layout : Layout) (held : List Bool) (n : ℕ) → n < length (missing_pieces axes lo hi layout held) → get_or (missing_pieces axes lo hi layout held) n 0 < length held
missing_within axes lo hi layout held n b = omega (arith, (passed_at (is_missing axes lo hi layout held) 0 (length held) n b).high)

-- where the rectangle can be read none is missing
pub missing_none : (axes lo hi : List ℕ) (layout : Layout) (held : List Bool) → HoldsRectangle axes lo hi layout held → missing_pieces axes lo hi layout held ≡ []
missing_none axes lo hi layout held holds = filter-none (is_missing axes lo hi layout held) 0 (length held) (λ j l b. fails j)
  where
    fails : (j : ℕ) → is_missing axes lo hi layout held j ≡ false
    fails j = elim (cases_Bool (is_touched axes lo hi (piece_pixels layout.width) layout.pixels j)) [
      | inl touched ↦ ap (λ t. t && not (get_or held j false)) touched ∙ ap not (holds j touched)
      | inr free ↦ ap (λ t. t && not (get_or held j false)) free
    ]

-- ---- once they were loaded

-- a piece that has a pixel of a rectangle is one of the unit's
pub touched_within : (axes lo hi : List ℕ) (layout : Layout) (bytes : List ℕ) (j : ℕ) → IsLayout layout bytes → is_touched axes lo hi (piece_pixels layout.width) layout.pixels j ≡ true → j < pieces_in (length bytes)
touched_within axes lo hi layout bytes j fits touched =
    let per : ℕ = piece_pixels layout.width in
    let f = any_found (is_inside axes lo hi) (j * per) (min per (layout.pixels - j * per)) touched in
    let some : j * per < layout.pixels = omega (arith, f.low, f.high) in
    elim fits.width [
      | inl z ↦ absurd (omega (arith, fits.no_pixels z, some))
      | inr width ↦
          let room = pixels_room layout.width layout.pixels (pieces_in (length bytes)) width (omega (arith, fits.room, fits.used)) in
          lt_of_mul-lt-mul_right per (omega (arith, some, room))
    ]

-- where each piece that was missing is in memory, in any order, and each that was is still, the rectangle can be read and painted
pub held_once_loaded : (axes lo hi : List ℕ) (layout : Layout) (bytes : List ℕ) (old new : List Bool) → IsLayout layout bytes → length old ≡ pieces_in (length bytes)
    → ((j : ℕ) → get_or old j false ≡ true → get_or new j false ≡ true)
    → ((n : ℕ) → n < length (missing_pieces axes lo hi layout old) → get_or new (get_or (missing_pieces axes lo hi layout old) n 0) false ≡ true)
    → HoldsRectangle axes lo hi layout new
held_once_loaded axes lo hi layout bytes old new fits count still loaded =
    let missing : List ℕ = missing_pieces axes lo hi layout old in
    holds_once_loaded axes lo hi layout old new (λ j touched. omega (arith, touched_within axes lo hi layout bytes j fits touched, count))
    (λ j w. subst (λ i. get_or new i false ≡ true) (get_or_default missing w.0 0 j w.1 ∙ w.2) (loaded w.0 w.1)) still
