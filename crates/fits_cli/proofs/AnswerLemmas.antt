-- What lines print, put together.
use Rattle.std.proofs.Common.{◌≡◌, ℕ, ◌+◌, ◌<◌, ◌≤◌, List, [], ◌∷◌, ◌++◌, length, take, get_or, refl, ap, sym, ◌∙◌, append_assoc, arith, suc}
use Rattle.std.proofs.lemmas.List.{append-nil, get_or_default, take_all, take_more, length-take-le}
use Rattle.fits_passing.specs.declared.offsets.HduOffsets.{HduOffsets}
use Rattle.fits_cli.specs.Answer.{offset_line, offset_lines}

-- lines of offsets, and of more
offset_lines-append : (n : ℕ) (xs ys : List HduOffsets) → offset_lines n (xs ++ ys) ≡ offset_lines n xs ++ offset_lines (n + length xs) ys
offset_lines-append n [] ys = let same : n ≡ n + 0 = omega arith in ap (λ m. offset_lines m ys) same
offset_lines-append n (x ∷ xs) ys =
    let next : n + 1 + length xs ≡ n + suc (length xs) = omega arith in
    ap (λ t. offset_line n x ++ t) (offset_lines-append (n + 1) xs ys ∙ ap (λ m. offset_lines (n + 1) xs ++ offset_lines m ys) next)
    ∙ sym (append_assoc (offset_line n x) (offset_lines (n + 1) xs) (offset_lines (n + suc (length xs)) ys))

-- the line of the next HDU
pub offset_lines-more : (hdus : List HduOffsets) (i number : ℕ) (at : HduOffsets) → i < length hdus → number ≡ i + 1 → at ≡ get_or hdus i at → offset_lines 1 (take (i + 1) hdus) ≡ offset_lines 1 (take i hdus) ++ offset_line number at
offset_lines-more hdus i number at l e is =
    let place : 1 + length (take i hdus) ≡ number = omega (arith, length-take-le i hdus (omega arith), e) in
    ap (offset_lines 1) (take_more hdus i at l ∙ ap (λ x. take i hdus ++ x ∷ []) (sym is)) ∙ offset_lines-append 1 (take i hdus) (at ∷ [])
    ∙ ap (λ t. offset_lines 1 (take i hdus) ++ t) (append-nil (offset_line (1 + length (take i hdus)) at) ∙ ap (λ n. offset_line n at) place)

-- all lines
pub offset_lines-whole : (hdus : List HduOffsets) (i : ℕ) → length hdus ≤ i → offset_lines 1 (take i hdus) ≡ offset_lines 1 hdus
offset_lines-whole hdus i l = ap (offset_lines 1) (take_all i hdus l)

-- one more line is added
pub offsets_step : (text new : List ℕ) (hdus : List HduOffsets) (i : ℕ) (d : HduOffsets) → i < length hdus → text ≡ offset_lines 1 (take i hdus) → new ≡ text ++ offset_line (i + 1) (get_or hdus i d) → new ≡ offset_lines 1 (take (i + 1) hdus)
offsets_step text new hdus i d l before added =
    added ∙ ap (λ t. t ++ offset_line (i + 1) (get_or hdus i d)) before ∙ sym (offset_lines-more hdus i (i + 1) (get_or hdus i d) l refl (sym (get_or_default hdus i (get_or hdus i d) d l)))

pub ruleset offset_steps = (offset_lines-whole)
