-- The lines of cards that aren't matched, one gap after another.
use Rattle.std.proofs.Common.{◌≡◌, ℕ, zero, suc, ◌+◌, ◌-◌, ◌<◌, List, [], ◌∷◌, ◌++◌, length, ap, sym, subst, ◌∙◌, append_assoc, arith}
use Rattle.fits_diff.specs.Matching.{AreMatched, IsNext, NoneNearer}
use Rattle.fits_patch.specs.Patch.{gap_lines, patch_lines, PatchesCards, repeated}

-- one of several comes first
repeated-less : (n : ℕ) (line : List ℕ) → 0 < n → repeated n line ≡ line ++ repeated (n - 1) line
repeated-less zero line some = absurd (omega arith)
repeated-less (suc m) line some = let less : m ≡ suc m - 1 = omega arith in ap (λ k. line ++ repeated k line) less

-- one more is there
pub repeated-push : (count left : ℕ) (start text new line : List ℕ) → 0 < left → text ++ repeated left line ≡ start ++ repeated count line → new ≡ text ++ line → new ++ repeated (left - 1) line ≡ start ++ repeated count line
repeated-push count left start text new line some so_far pushed =
    ap (λ t. t ++ repeated (left - 1) line) pushed ∙ append_assoc text line (repeated (left - 1) line) ∙ ap (λ t. text ++ t) (sym (repeated-less left line some)) ∙ so_far

-- so far the pairs that come next are all
abbrev pub DrawnSoFar : ℕ → List (List ℕ) → List (List ℕ) → ℕ → ℕ → List ℕ → Type 0
DrawnSoFar h xs ys i j text = (pairs : List (ℕ × ℕ)) → AreMatched xs ys i j pairs → PatchesCards h xs ys (text ++ patch_lines h xs ys i j pairs)

-- one more is
pub drawn_more : (h : ℕ) (xs ys : List (List ℕ)) (i j p q : ℕ) (text new : List ℕ) → DrawnSoFar h xs ys i j text → IsNext xs ys i j p q → new ≡ text ++ gap_lines h ys (p - i) j q → DrawnSoFar h xs ys (p + 1) (q + 1) new
drawn_more h xs ys i j p q text new so_far next is pairs matched =
    let rest : List ℕ = patch_lines h xs ys (p + 1) (q + 1) pairs in
    subst (PatchesCards h xs ys) (sym (append_assoc text (gap_lines h ys (p - i) j q) rest) ∙ ap (λ t. t ++ rest) (sym is)) (so_far ((p, q) ∷ pairs) (next, matched))

-- all are
pub drawn_all : (h : ℕ) (xs ys : List (List ℕ)) (i j gone q : ℕ) (text new : List ℕ) → DrawnSoFar h xs ys i j text → NoneNearer xs ys i j (length xs + length ys) → gone ≡ length xs - i → q ≡ length ys → new ≡ text ++ gap_lines h ys gone j q → PatchesCards h xs ys new
drawn_all h xs ys i j gone q text new so_far none left end is =
    let e : gap_lines h ys gone j q ≡ gap_lines h ys (length xs - i) j (length ys) = ap (λ k. gap_lines h ys k j q) left ∙ ap (λ k. gap_lines h ys (length xs - i) j k) end in
    subst (PatchesCards h xs ys) (ap (λ t. text ++ t) (sym e) ∙ sym is) (so_far [] none)
