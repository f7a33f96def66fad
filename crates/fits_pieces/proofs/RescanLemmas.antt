-- Pieces whose painted blocks are scanned again.
use Rattle.std.proofs.Common.{◌≡◌, ◌≤◌, ◌<◌, ◌+◌, ◌*◌, ◌^◌, ℕ, suc, Bool, true, false, cond, List, [], ◌∷◌, Option, None, Some, length, get_or, refl, arith, ◌∙◌, ap}
use Rattle.std.specs.Prelude.{IfSome, if◌then◌else◌}
use Rattle.std.specs.List.{sum_by}
use Rattle.std.proofs.Math.Nat.{add-mul}
use Rattle.std.proofs.lemmas.List.Sums.{sum_by-cons}
use Rattle.fits_pixels.specs.Layout.{block_count}
use Rattle.fits_pieces.specs.Blocks.{stale_count, IsFresh, PieceState}
use Rattle.fits_pieces.specs.Painting.{stale_of, RescansPiece}
use Rattle.fits_pieces.specs.Pieces.{joins_of, scans_of}

-- ---- marks

-- 1 for one that is set
abbrev one_if : Bool → ℕ
one_if b = if b then 1 else 0

-- how many are set, with one before
pub marks-cons : (b : Bool) (bs : List Bool) → stale_count (b ∷ bs) ≡ (if b then 1 else 0) + stale_count bs
marks-cons b bs = sum_by-cons (λ b. cond b 1 0) b bs

-- none is where none is set
pub fresh_count : (bs : List Bool) → IsFresh bs → stale_count bs ≡ 0
fresh_count [] f = refl
fresh_count (b ∷ bs) f =
    let first : one_if b ≡ 0 = ap one_if (f 0) in
    omega (arith, marks-cons b bs, first, fresh_count bs (λ k. f (suc k)))

-- ---- all of them

-- each piece has no more than so many blocks
abbrev pub HaveFew : ℕ → List (Option PieceState) → Type 0
HaveFew most pieces = (j : ℕ) → IfSome (get_or pieces j None) (λ it. block_count it.bytes ≤ most)

-- what was done on all of them
pub record Totals (old new : List (Option PieceState)) (marks : List Bool) : Type 0 where
  pub scans : sum_by scans_of new + sum_by stale_of new ≡ sum_by scans_of old + sum_by stale_of old
  pub less : stale_count marks + sum_by stale_of new ≤ sum_by stale_of old
  pub more : sum_by joins_of old ≤ sum_by joins_of new
  pub few : (d : ℕ) → HaveFew (2 ^ d) old → sum_by joins_of new + sum_by stale_of new * d ≤ sum_by joins_of old + sum_by stale_of old * d
  pub most : (d : ℕ) → HaveFew (2 ^ d) old → sum_by joins_of new + stale_count marks ≤ sum_by joins_of old + stale_count marks * 2 ^ d

-- on one
record Single (old new : Option PieceState) (mark : Bool) : Type 0 where
  pub scans : scans_of new + stale_of new ≡ scans_of old + stale_of old
  pub less : (if mark then 1 else 0) + stale_of new ≤ stale_of old
  pub more : joins_of old ≤ joins_of new
  pub few : (d : ℕ) → IfSome old (λ it. block_count it.bytes ≤ 2 ^ d) → joins_of new + stale_of new * d ≤ joins_of old + stale_of old * d
  pub most : (d : ℕ) → IfSome old (λ it. block_count it.bytes ≤ 2 ^ d) → joins_of new + (if mark then 1 else 0) ≤ joins_of old + (if mark then 2 ^ d else 0)

-- by what is known of it
single : (old new : Option PieceState) (mark : Bool) → RescansPiece old new mark → Single old new mark
single None None mark e =
    let none : one_if mark ≡ 0 = ap one_if e in
    let no_power : (d : ℕ) → joins_of None + one_if mark ≤ joins_of None + (if mark then 2 ^ d else 0) = λ d. omega (arith, none) in
    record { scans = refl; less = omega (arith, none); more = omega arith; few = λ d h. omega arith; most = λ d h. no_power d }
single None (Some new) mark v = elim v [ ]
single (Some old) None mark v = elim v [ ]
single (Some old) (Some new) mark v = record { scans = v.scans; less = v.less; more = v.more; few = v.few; most = v.most }

-- a mark times a power
mark_power : (b : Bool) (p : ℕ) → (if b then p else 0) ≡ (if b then 1 else 0) * p
mark_power true p = omega arith
mark_power false p = omega arith

-- by what is known of each
pub totals : (old new : List (Option PieceState)) (marks : List Bool) → length new ≡ length old → length marks ≡ length old → ((j : ℕ) → j < length old → RescansPiece (get_or old j None) (get_or new j None) (get_or marks j false)) → Totals old new marks
totals [] [] [] e f v = record { scans = refl; less = omega arith; more = omega arith; few = λ d h. omega arith; most = λ d h. omega arith }
totals (x ∷ xs) (y ∷ ys) (b ∷ bs) e f v =
    let one = single x y b (v 0 (omega arith)) in
    let rest = totals xs ys bs (omega (arith, e)) (omega (arith, f)) (λ j c. v (suc j) (omega (arith, c))) in
    let sx = sum_by-cons scans_of x xs in
    let sy = sum_by-cons scans_of y ys in
    let tx = sum_by-cons stale_of x xs in
    let ty = sum_by-cons stale_of y ys in
    let jx = sum_by-cons joins_of x xs in
    let jy = sum_by-cons joins_of y ys in
    let ms = marks-cons b bs in
    record {
      scans = omega (arith, one.scans, rest.scans, sx, sy, tx, ty);
      less = omega (arith, one.less, rest.less, tx, ty, ms);
      more = omega (arith, one.more, rest.more, jx, jy);
      few = λ d h.
          let px : sum_by stale_of (x ∷ xs) * d ≡ stale_of x * d + sum_by stale_of xs * d = ap (λ n. n * d) tx ∙ add-mul (stale_of x) (sum_by stale_of xs) d in
          let py : sum_by stale_of (y ∷ ys) * d ≡ stale_of y * d + sum_by stale_of ys * d = ap (λ n. n * d) ty ∙ add-mul (stale_of y) (sum_by stale_of ys) d in
          omega (arith, one.few d (h 0), rest.few d (λ j. h (suc j)), jx, jy, px, py);
      most = λ d h.
          let pm : stale_count (b ∷ bs) * 2 ^ d ≡ (if b then 1 else 0) * 2 ^ d + stale_count bs * 2 ^ d = ap (λ n. n * 2 ^ d) ms ∙ add-mul (if b then 1 else 0) (stale_count bs) (2 ^ d) in
          omega (arith, one.most d (h 0), rest.most d (λ j. h (suc j)), jx, jy, ms, pm, mark_power b (2 ^ d));
    }
totals [] (y ∷ ys) marks e f v = absurd (omega (arith, e))
totals (x ∷ xs) [] marks e f v = absurd (omega (arith, e))
totals [] [] (b ∷ bs) e f v = absurd (omega (arith, f))
totals (x ∷ xs) (y ∷ ys) [] e f v = absurd (omega (arith, f))
